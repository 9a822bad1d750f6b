-- `sim_blocks::put_client` meets its contract: head and row are two parts of the block, written one after the other.
use Rattle.sim_blocks.proofs.BlockParts.{client_put_back}
use Rattle.sim_blocks.proofs.put_client.Goals as goal

pub returns : goal.returns
returns c = search client_put_back
