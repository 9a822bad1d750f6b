-- A refused call leaves the host's record and buffer as they were.
use Rattle.wire.specs.declared.Sent.{Sent}
use Rattle.std.specs.Prelude.{Err, Result}
use Prim.Native.Nat.{ℕ}
use mathlib.Core.Path.{◌≡◌}
use mathlib.Core.List.{List}
use Rattle.ids.specs.declared.Refusal.{Refusal}
use Rattle.wire.specs.Step.{Outcome, refused, stepped, answer_of, sent_into}
use Rattle.server_votes.specs.Figure1.{State}
use Rattle.server.specs.declared.Server.{Server}
use Rattle.server.specs.Calls.{server_after}
use Rattle.server_host.specs.Leaves.{Leaves}

from-outcome : {s s' : Server} {r : Result Sent Refusal} {out out' : List ℕ} (e : Refusal) (o : Outcome State)
    → r ≡ answer_of o → s' ≡ server_after s o → out' ≡ sent_into out o → r ≡ Err e → (s' ≡ s) × (out' ≡ out)
from-outcome e (refused e') answered stored written said = (stored, written)
from-outcome e (stepped p) answered stored written said = (cc, cc)

pub unchanged : {o : Outcome State} {r : Result Sent Refusal} {s s' : Server} {out out' : List ℕ} (e : Refusal) → Leaves o r s s' out out' → r ≡ Err e → (s' ≡ s) × (out' ≡ out)
unchanged {o} e l = from-outcome e o l.answered l.stored l.written
