-- `client_responses::send_reply` meets its contract: nothing for an empty place, one message for any other.
use Rattle.client_responses.proofs.RoundLaws.{replies-none, replies_fit, replies-one}
use Rattle.client_responses.proofs.send_reply.Goals as goal

pub returns-then-is_empty : goal.returns-then-is_empty
returns-then-is_empty c = replies-none _ _ _ _ _ _ c.is_empty.ensures c.if-is_empty.true

pub put-requires : goal.put-requires
put-requires c = search replies_fit

pub returns : goal.returns
returns c =
    replies-one _ _ _ _ _ _ c.is_empty.ensures _ c.if-is_empty.false c.reply.ensures _ _ c.put.ensures
