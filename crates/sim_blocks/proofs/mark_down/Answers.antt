-- `sim_blocks::mark_down` meets its contract: by whether the client is in an epoch.
use Rattle.sim_blocks.proofs.BlockParts.{marked, unmarked}
use Rattle.sim_blocks.proofs.mark_down.Goals as goal

pub returns-then-in_epoch : goal.returns-then-in_epoch
returns-then-in_epoch c = search marked

pub returns-else-in_epoch : goal.returns-else-in_epoch
returns-else-in_epoch c = search unmarked
