-- The block that is lent is as long as a block.
use Rattle.sim_layout.proofs.LendLaws.{server_lent}
use Rattle.sim_layout.proofs.server_row.Goals as goal

pub server_row-requires : goal.server_row-requires
server_row-requires c = (server_lent c.args.w.now c.args.j c.requires.0 _ c.block_of_server.ensures, c.requires.1)
