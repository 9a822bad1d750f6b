-- `sim_layout::fall_client` meets its contract: the block is lent, and what the callee says of it is said of the simulation's block.
use Rattle.sim_layout.proofs.LendLaws.{client-written}
use Rattle.sim_blocks.specs.Blocks.{cleared}
use lib.ListN.{set}
use Rattle.sim_layout.proofs.LendLaws.{length-cleared}
use Rattle.sim_layout.proofs.fall_client.Goals as goal

pub returns : goal.returns
returns c = let a = c.args in
    client-written a.w.now a.k c.requires (λ b. cleared (set b 0 0)) _ (λ l. length-cleared l) c.fall.ensures
