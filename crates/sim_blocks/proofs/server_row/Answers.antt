-- `sim_blocks::server_row` meets its contract: the row is the part of the block behind the head of its record.
use Rattle.sim_blocks.proofs.BlockParts.{row-lent}
use Rattle.sim_blocks.proofs.server_row.Goals as goal

pub returns : goal.returns
returns c = search row-lent
