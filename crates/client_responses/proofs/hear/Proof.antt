-- `client_responses::hear` meets its contract: each return is one case of the definition.
use Rattle.client_responses.proofs.HearLaws.{hear_own, hear_old, hear_new}
use borrow.Author.Rules.{rules}
use Rattle.client_responses.proofs.hear.Statement.{statement}
use Rattle.client_responses.proofs.hear.Tie as tie

pub hear_spec : {M : Type 1} → statement M
hear_spec =
    tie.close
    (tie.spec
    (λ c. search rules)
    (λ c. search rules)
    (λ c κs. search rules)
    (λ c κs. search rules)
    (λ c. search rules)
    (λ c. search hear_own)
    (λ c κs. search rules)
    (λ c. search rules)
    (λ c. search hear_old)
    (λ c κs. search rules)
    (λ c κs. search rules)
    (λ c. search rules)
    (λ c. search hear_new))
