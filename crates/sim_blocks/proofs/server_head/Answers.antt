-- `sim_blocks::server_head` meets its contract: the record is a part of the block.
use Rattle.words.proofs.RecordsLaws.{server-held}
use Rattle.sim_blocks.proofs.server_head.Goals as goal

pub server_head-requires : goal.server_head-requires
server_head-requires c = (server-held _ _ c.requires.1).headed
