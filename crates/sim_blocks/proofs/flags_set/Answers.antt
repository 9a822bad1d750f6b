-- One flag more, and all of them.
use Rattle.sim_blocks.proofs.FlagLaws.{counting_none, counting_more, counting_all}
use Rattle.sim_blocks.proofs.flags_set.Goals as goal

pub loop-i-init : goal.loop-i-init
loop-i-init c = counting_none _

pub loop-i-preserved : goal.loop-i-preserved
loop-i-preserved c = search counting_more

pub returns : goal.returns
returns c = search counting_all
