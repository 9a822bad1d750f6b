-- `client::respond_row` meets its contract: the step of the head that has seen the timestamp, settled.
use Rattle.client.proofs.StepLaws.{still-valid, still_served, responded_to}
use borrow.Author.Rules.{rules}
use Rattle.client.proofs.respond_row.Statement.{statement}
use Rattle.client.proofs.respond_row.Tie as tie

pub respond_row_spec : {M : Type 1} → statement M
respond_row_spec =
    tie.close
    (tie.spec
    (λ c κs. search rules)
    (λ c κs. search rules)
    (λ c κs. search (still-valid, still_served))
    (λ c κs. search rules)
    (λ c. search rules)
    (λ c. search rules)
    (λ c. search (rules, responded_to)))
