-- The part of the words from where the block begins is the block.
use Rattle.sim_layout.proofs.LendLaws.{whole-server}
use Rattle.sim_layout.proofs.block_of_server.Goals as goal

pub returns : goal.returns
returns c = whole-server c.args.w.now c.args.j c.requires
