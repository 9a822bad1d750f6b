-- Each turn posts one message.
use Rattle.sim_transit.proofs.PostLaws.{posting_none, posting_more}
use Rattle.sim_transit.proofs.post.Goals as goal

pub loop-i-init : goal.loop-i-init
loop-i-init c = search posting_none

pub loop-i-preserved : goal.loop-i-preserved
loop-i-preserved c = search posting_more
