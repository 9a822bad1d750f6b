-- The block that is lent is as long as a block.
use Rattle.sim_layout.proofs.LendLaws.{client_lent}
use Rattle.sim_layout.proofs.is_living.Goals as goal

pub is_living-requires : goal.is_living-requires
is_living-requires c = client_lent c.args.w.now c.args.k c.requires _ c.block_of_client.ensures
