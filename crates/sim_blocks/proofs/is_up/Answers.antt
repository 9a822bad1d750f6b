-- `sim_blocks::is_up` meets its contract: it is the first word.
use Rattle.sim_blocks.proofs.TestLaws.{up_word}
use Rattle.sim_blocks.proofs.is_up.Goals as goal

pub returns : goal.returns
returns c = up_word _
