-- `sim_blocks::sink` meets its contract: the record of a server that forgot everything, then the first word.
use Rattle.sim_blocks.proofs.BlockParts.{sunk, forgotten_short}
use Rattle.sim_blocks.proofs.sink.Goals as goal

pub put_server-requires : goal.put_server-requires
put_server-requires c = search forgotten_short

pub returns : goal.returns
returns c = search sunk
