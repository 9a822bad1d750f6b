-- `sim_blocks::in_epoch` meets its contract: the first word, then the section.
use Rattle.sim_blocks.proofs.TestLaws.{fallen-out, living_epoch}
use Rattle.sim_blocks.proofs.in_epoch.Goals as goal

pub returns-then-b-ne1 : goal.returns-then-b-ne1
returns-then-b-ne1 c = search fallen-out

pub returns : goal.returns
returns c = search living_epoch
