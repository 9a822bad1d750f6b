-- `script::valid` meets its contract: each return is one case of the definition.
use Rattle.script.proofs.TestLaws.{size-wrong, stage-wrong, line-wrong, run_decides, idle_decides_all}
use borrow.Author.Rules.{rules}
use Rattle.script.proofs.valid.Statement.{statement}
use Rattle.script.proofs.valid.Tie as tie

pub valid_spec : {M : Type 1} → statement M
valid_spec =
    tie.close
    (tie.spec
    (λ c. search size-wrong)
    (λ c. search rules)
    (λ c. search stage-wrong)
    (λ c κs. search rules)
    (λ c. search line-wrong)
    (λ c. search rules)
    (λ c κs. search rules)
    (λ c. search run_decides)
    (λ c κs. search rules)
    (λ c. search idle_decides_all))
