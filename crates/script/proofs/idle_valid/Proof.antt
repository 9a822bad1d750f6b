-- `script::idle_valid` meets its contract: each return is one case of the definition.
use Rattle.script.proofs.TestLaws.{idle-answered, idle-accepted, idle-holding, idle_decides}
use borrow.Author.Rules.{rules}
use Rattle.script.proofs.idle_valid.Statement.{statement}
use Rattle.script.proofs.idle_valid.Tie as tie

pub idle_valid_spec : {M : Type 1} → statement M
idle_valid_spec =
    tie.close
    (tie.spec
    (λ c. search rules)
    (λ c. search idle-answered)
    (λ c. search rules)
    (λ c. search idle-accepted)
    (λ c. search rules)
    (λ c. search idle-holding)
    (λ c κs. search rules)
    (λ c. search idle_decides))
