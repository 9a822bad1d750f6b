-- `client::message` meets its contract by that of `message_row`.
use Rattle.client.proofs.StepLaws.{by_value}
use borrow.Author.Rules.{rules}
use Rattle.client.proofs.message.Statement.{statement}
use Rattle.client.proofs.message.Tie as tie

returns : tie.Need-returns
returns c =
    by_value c.args.c _ c.args.out.now _ _ _ c.message_row-turned.ensures _ c.together.ensures

pub message_spec : {M : Type 1} → statement M
message_spec =
    tie.close
    (tie.spec
    (λ c. search rules)
    (λ c κs. search rules)
    (λ c κs. search rules)
    (λ c. search rules)
    returns)
