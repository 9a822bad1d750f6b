-- `server::message` meets its contract: the call on the record's row, and then what was to be sent.
use Rattle.server.proofs.TurnLaws.{turns_by_value}
use borrow.Author.Rules.{rules}
use Rattle.server.proofs.message.Statement.{statement}
use Rattle.server.proofs.message.Tie as tie

returns : tie.Need-returns
returns c = turns_by_value c.args.s _ _ _ _ _ _
    c.message_row-t.ensures c.finish.ensures

pub message_spec : {M : Type 1} → statement M
message_spec =
    tie.close
    (tie.spec
    (λ c. search rules)
    (λ c κs. search rules)
    (λ c κs. search rules)
    (λ c. search rules)
    returns)
