-- `client::valid_row_up_to` meets its contract: the tests in the definition's order.
use Rattle.ids.proofs.Choice.{holds}
use Rattle.rows.proofs.GoodLaws.{good-padded}
use Rattle.client.proofs.ValidLaws.{sizes_fail, id_fails, timestamp_fails, row_fails, places-decide}
use borrow.Author.Rules.{rules}
use Rattle.client.proofs.valid_row_up_to.Statement.{statement}
use Rattle.client.proofs.valid_row_up_to.Tie as tie

pub valid_row_up_to_spec : {M : Type 1} → statement M
valid_row_up_to_spec =
    tie.close
    (tie.spec
    (λ c κs. search rules)
    (λ c. search sizes_fail)
    (λ c κs. search rules)
    (λ c. search id_fails)
    (λ c κs. search rules)
    (λ c. search timestamp_fails)
    (λ c. search rules)
    (λ c κs. search rules)
    (λ c. search row_fails)
    (λ c κs. good-padded _ _ (holds _ _ c.good_row.ensures c.if-not-good_row.false))
    (λ c. search places-decide))
