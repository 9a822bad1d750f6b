-- `sim_layout::put_flag` meets its contract: the block is lent, and what the callee says of it is said of the simulation's block.
use Rattle.sim_layout.proofs.LendLaws.{client-written}
use lib.ListN.{set, length-set}
use Prim.Native.Nat.{◌+◌}
use Rattle.sim_blocks.specs.Blocks.{client_record_size}
use Rattle.sim_layout.proofs.put_flag.Goals as goal

pub returns : goal.returns
returns c = let a = c.args in
    client-written a.w.now a.k c.requires.0 (λ b. set b (client_record_size + a.j.0) a.x) _ (λ l. length-set l _ _) c.put_flag.ensures
