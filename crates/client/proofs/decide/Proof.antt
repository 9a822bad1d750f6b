-- `client::decide` meets its contract: the verdicts decide.
use Rattle.client.proofs.StepLaws.{decide-waits, decide-enters, decide-yields}
use borrow.Author.Rules.{rules}
use Rattle.client.proofs.decide.Statement.{statement}
use Rattle.client.proofs.decide.Tie as tie

pub decide_spec : {M : Type 1} → statement M
decide_spec =
    tie.close
    (tie.spec
    (λ c κs. search rules)
    (λ c. search decide-waits)
    (λ c κs. search rules)
    (λ c. search decide-enters)
    (λ c κs. search rules)
    (λ c. search rules)
    (λ c. search rules)
    (λ c. search decide-yields))
