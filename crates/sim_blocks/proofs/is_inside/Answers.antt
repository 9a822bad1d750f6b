-- `sim_blocks::is_inside` meets its contract: the first word, then the section.
use Rattle.sim_blocks.proofs.TestLaws.{fallen-outside, living-inside}
use Rattle.sim_blocks.proofs.is_inside.Goals as goal

pub returns-then-b-eq1 : goal.returns-then-b-eq1
returns-then-b-eq1 c = search living-inside

pub returns : goal.returns
returns c = search fallen-outside
