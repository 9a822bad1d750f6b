-- `capi_simulation::happen` meets its contract: without room for an answer the event happens to a copy, else to the words lent.
use Rattle.capi_simulation.proofs.CallLaws.{happens-short, happens-accepted, happens-refused}
use borrow.Author.Rules.{rules}
use Rattle.capi_simulation.proofs.happen.Statement.{statement}
use Rattle.capi_simulation.proofs.happen.Tie as tie

pub happen_spec : {M : Type 1} → statement M
happen_spec =
    tie.close
    (tie.spec
    (λ c κs. search rules)
    (λ c. search rules)
    (λ c. search happens-short)
    (λ c κs. search rules)
    (λ c. search rules)
    (λ c. search rules)
    (λ c. search rules)
    (λ c. search rules)
    (λ c κs. search rules)
    (λ c. search rules)
    (λ c. search rules)
    (λ c. search happens-accepted)
    (λ c. search rules)
    (λ c. search happens-refused))
