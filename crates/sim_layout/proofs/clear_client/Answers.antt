-- `sim_layout::clear_client` meets its contract: the block is lent, and what the callee says of it is said of the simulation's block.
use Rattle.sim_layout.proofs.LendLaws.{client-written}
use Rattle.sim_blocks.specs.Blocks.{cleared}
use Rattle.sim_layout.proofs.LendLaws.{length-flags}
use Rattle.sim_layout.proofs.clear_client.Goals as goal

pub returns : goal.returns
returns c = let a = c.args in
    client-written a.w.now a.k c.requires cleared _ (λ l. length-flags l) c.clear_flags.ensures
