-- `client::exit_row` meets its contract: each return is one case of the outcome, by the tests in their order.
use Rattle.client.proofs.StepLaws.{answers-refused, exit_invalid, exit_elsewhere, exit_leaves, tested_padded, critical_timestamp}
use borrow.Author.Rules.{rules}
use Rattle.client.proofs.exit_row.Statement.{statement}
use Rattle.client.proofs.exit_row.Tie as tie

returns-3 : tie.Need-returns
returns-3 c =
    rw (exit_leaves _ _ _ c.valid_row.ensures _ c.if-not-valid_row.false c.is_critical.ensures c.if-not-is_critical.false) c.leave.ensures

pub exit_row_spec : {M : Type 1} → statement M
exit_row_spec =
    tie.close
    (tie.spec
    (λ c κs. search rules)
    (λ c κs. search rules)
    (λ c. search rules)
    (λ c. search (answers-refused, exit_invalid))
    (λ c κs. search rules)
    (λ c κs. search rules)
    (λ c. search rules)
    (λ c. search (answers-refused, exit_elsewhere))
    (λ c κs. (search tested_padded, search critical_timestamp))
    (λ c. search rules)
    (λ c. search rules)
    returns-3)
