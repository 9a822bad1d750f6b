-- `sim_blocks::count_flags` meets its contract: those of the block.
use Rattle.sim_blocks.proofs.FlagLaws.{downs-counted}
use Rattle.sim_blocks.proofs.count_flags.Goals as goal

pub returns : goal.returns
returns c = search downs-counted
