-- `client::begin_row` meets its contract: each return is one case of the outcome, by the tests in their order.
use Rattle.client.proofs.StepLaws.{answers-refused, begin_invalid, begin_elsewhere, begin_spent, begin_tries, tested_padded, left_to_try}
use borrow.Author.Rules.{rules}
use Rattle.client.proofs.begin_row.Statement.{statement}
use Rattle.client.proofs.begin_row.Tie as tie

returns-4 : tie.Need-returns
returns-4 c =
    rw (begin_tries _ _ _ c.valid_row.ensures _ c.if-not-valid_row.false c.is_remainder.ensures _ c.latest.ensures c.if-not-is_remainder.false c.if-latest-gt-LAST_TRY.false)
    c.attempt.ensures

pub begin_row_spec : {M : Type 1} → statement M
begin_row_spec =
    tie.close
    (tie.spec
    (λ c κs. search rules)
    (λ c κs. search rules)
    (λ c. search rules)
    (λ c. search (answers-refused, begin_invalid))
    (λ c κs. search rules)
    (λ c κs. search rules)
    (λ c. search rules)
    (λ c. search (answers-refused, begin_elsewhere))
    (λ c κs. search rules)
    (λ c κs. search rules)
    (λ c. search rules)
    (λ c. search (answers-refused, begin_spent))
    (λ c κs. search (tested_padded, left_to_try))
    (λ c. search rules)
    (λ c. search rules)
    returns-4)
