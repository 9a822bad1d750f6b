-- `sim_takes::deliver` meets its contract: each kind of message is handed to its receiver.
use mathlib.Core.Path.{◌≡◌}
use Prim.Native.Nat.{ℕ}
use mathlib.Core.List.{List}
use Rattle.wire.specs.declared.Message.{Message}
use Rattle.sim_changes.specs.Changes.{Pends}
use borrow.Author.Rules.{rules}
use Rattle.sim_takes.proofs.deliver.Statement.{statement}
use Rattle.sim_takes.proofs.deliver.Tie as tie

as-sent : {w : List ℕ} {i : ℕ} {m m' : Message} → m ≡ m' → Pends w i m → Pends w i m'
as-sent e P = rw e at P

pub deliver_spec : {M : Type 1} → statement M
deliver_spec =
    tie.close
    (tie.spec
    (λ c. search rules)
    (λ c κs. search as-sent)
    (λ c. search rules)
    (λ c κs. search as-sent)
    (λ c. search rules)
    (λ c κs. search as-sent)
    (λ c. search rules)
    (λ c κs. search as-sent)
    (λ c. search rules)
    (λ c κs. search as-sent)
    (λ c. search rules)
    (λ c κs. search as-sent)
    (λ c. search rules)
    (λ c. search rules)
    (λ c. search rules)
    (λ c. search rules)
    (λ c. search rules)
    (λ c. search rules)
    (λ c. search rules)
    (λ c. search rules)
    (λ c. search rules)
    (λ c. search rules)
    (λ c. search rules)
    (λ c. search rules))
