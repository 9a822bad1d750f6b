-- `sim_blocks::put_server` meets its contract: head and row are two parts of the block, written one after the other.
use Rattle.sim_blocks.proofs.BlockParts.{server_put_back}
use Rattle.sim_blocks.proofs.put_server.Goals as goal

pub returns : goal.returns
returns c = search server_put_back
