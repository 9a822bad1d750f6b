-- `client::check_row` meets its contract: the step of the head that has seen the timestamp, settled.
use Rattle.client.proofs.StepLaws.{still-valid, checked_by}
use borrow.Author.Rules.{rules}
use Rattle.client.proofs.check_row.Statement.{statement}
use Rattle.client.proofs.check_row.Tie as tie

pub check_row_spec : {M : Type 1} → statement M
check_row_spec =
    tie.close
    (tie.spec
    (λ c κs. search rules)
    (λ c κs. search still-valid)
    (λ c κs. search rules)
    (λ c. search rules)
    (λ c. search checked_by))
