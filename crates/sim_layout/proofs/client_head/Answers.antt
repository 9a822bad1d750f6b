-- The block that is lent is as long as a block.
use Rattle.sim_layout.proofs.LendLaws.{client_lent}
use Rattle.sim_layout.proofs.client_head.Goals as goal

pub client_head-requires : goal.client_head-requires
client_head-requires c = (client_lent c.args.w.now c.args.k c.requires.0 _ c.block_of_client.ensures, rw c.block_of_client.ensures c.requires.1)
