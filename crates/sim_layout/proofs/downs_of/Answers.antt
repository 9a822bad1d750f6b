-- The block that is lent is as long as a block.
use Rattle.sim_layout.proofs.LendLaws.{client_lent}
use Rattle.sim_layout.proofs.downs_of.Goals as goal

pub count_flags-requires : goal.count_flags-requires
count_flags-requires c = client_lent c.args.w.now c.args.k c.requires _ c.block_of_client.ensures
