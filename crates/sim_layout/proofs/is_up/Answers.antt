-- The block that is lent is as long as a block.
use Rattle.sim_layout.proofs.LendLaws.{server_lent}
use Rattle.sim_layout.proofs.is_up.Goals as goal

pub is_up-requires : goal.is_up-requires
is_up-requires c = server_lent c.args.w.now c.args.j c.requires _ c.block_of_server.ensures
