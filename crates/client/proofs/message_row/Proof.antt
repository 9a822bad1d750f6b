-- `client::message_row` meets its contract: each return is one case of the outcome, by the tests in their order.
use Rattle.ids.proofs.Choice.{holds}
use Rattle.client.proofs.StepLaws.{answers-refused, message_invalid, message_bad, message-received}
use borrow.Author.Rules.{rules}
use Rattle.client.proofs.message_row.Statement.{statement}
use Rattle.client.proofs.message_row.Tie as tie

returns-3 : tie.Need-returns
returns-3 c =
    rw (message-received _ _ _ c.valid_row.ensures _ _ c.if-not-valid_row.false c.valid_message.ensures c.if-not-valid_message.false) c.receive.ensures

pub message_row_spec : {M : Type 1} → statement M
message_row_spec =
    tie.close
    (tie.spec
    (λ c κs. search rules)
    (λ c κs. search rules)
    (λ c. search rules)
    (λ c. search (answers-refused, message_invalid))
    (λ c κs. search rules)
    (λ c κs. search rules)
    (λ c. search rules)
    (λ c. search (answers-refused, message_bad))
    (λ c κs. (search holds, search holds))
    (λ c. search rules)
    (λ c. search rules)
    returns-3)
