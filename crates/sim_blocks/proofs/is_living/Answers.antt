-- `sim_blocks::is_living` meets its contract: it is the first word.
use Rattle.sim_blocks.proofs.TestLaws.{living-word}
use Rattle.sim_blocks.proofs.is_living.Goals as goal

pub returns : goal.returns
returns c = living-word _
