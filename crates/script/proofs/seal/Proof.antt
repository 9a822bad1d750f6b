-- `script::seal` meets its contract: all words are cleared, and the stage is stored.
use lib.ListN.{set}
use mathlib.Core.List.{List}
use mathlib.Core.Path.{ap}
use Prim.Native.Nat.{ℕ}
use Rattle.script.specs.State.{stage_at, stage_closed}
use borrow.Author.Rules.{rules}
use Rattle.script.proofs.seal.Statement.{statement}
use Rattle.script.proofs.seal.Tie as tie

pub seal_spec : {M : Type 1} → statement M
seal_spec =
    tie.close
    (tie.spec
    (λ c κs. search rules)
    (λ c. search rules)
    (λ c. search rules)
    (λ c. ap (λ (l : List ℕ). set l stage_at stage_closed) c.clear.ensures))
