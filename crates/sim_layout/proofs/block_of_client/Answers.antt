-- The part of the words from where the block begins is the block.
use Rattle.sim_layout.proofs.LendLaws.{whole-client}
use Rattle.sim_layout.proofs.block_of_client.Goals as goal

pub returns : goal.returns
returns c = whole-client c.args.w.now c.args.k c.requires
