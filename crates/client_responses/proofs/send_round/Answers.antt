-- No reply, one more, and all of them.
use Rattle.client_responses.proofs.RoundLaws.{replying_none, replying_fits, replying_more, replying_all}
use Rattle.client_responses.proofs.send_round.Goals as goal

pub loop-i-init : goal.loop-i-init
loop-i-init c = search replying_none

pub send_reply-at-requires : goal.send_reply-at-requires
send_reply-at-requires c = search replying_fits

pub loop-i-preserved : goal.loop-i-preserved
loop-i-preserved c = search replying_more

pub returns : goal.returns
returns c = search replying_all
