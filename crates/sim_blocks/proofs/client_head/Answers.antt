-- `sim_blocks::client_head` meets its contract: the record is a part of the block.
use Rattle.words.proofs.RecordsLaws.{client-held}
use Rattle.sim_blocks.proofs.client_head.Goals as goal

pub client_head-requires : goal.client_head-requires
client_head-requires c = (client-held _ _ c.requires.1).headed
