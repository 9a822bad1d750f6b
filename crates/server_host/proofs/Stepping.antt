-- What the server's call gives is what the host's call leaves: the record and the answer are those of the struct that came back.
use Rattle.wire.specs.declared.Sent.{Sent}
use Rattle.ids.specs.declared.Refusal.{Refusal}
use Rattle.std.specs.Prelude.{Result}
use mathlib.Core.Path.{ap}
use Prim.Native.Nat.{ℕ}
use mathlib.Core.List.{List}
use lib.ListN.{length}
use Rattle.wire.specs.Step.{Outcome, with_room}
use Rattle.server_votes.specs.Figure1.{State}
use Rattle.server.specs.declared.Server.{Server}
use Rattle.server.specs.declared.Stepped.{Stepped}
use Rattle.server.specs.Calls.{Gives}
use Rattle.server_host.specs.Leaves.{Leaves}

-- the two contracts, at the outcome f of a record
module _ (f : Server → Outcome State) where
  abbrev pub Says : Server → List ℕ → Stepped → List ℕ → Type 0
  Says h ys r zs = Gives h (with_room (length ys) (f h)) ys r zs

  abbrev pub Left : Server → List ℕ → Result Sent Refusal → Server → List ℕ → Type 0
  Left h ys r h' zs = Leaves (with_room (length ys) (f h)) r h h' ys zs

  pub leaves : (h : Server) (ys : List ℕ) (r : Stepped) (zs : List ℕ) → Says h ys r zs → Left h ys r.answer r.server zs
  leaves h ys r zs e = record { answered = ap (λ (t : Stepped). t.answer) e.0; stored = ap (λ (t : Stepped). t.server) e.0; written = e.1; said = e.2 }
