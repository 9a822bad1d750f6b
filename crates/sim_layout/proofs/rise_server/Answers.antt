-- `sim_layout::rise_server` meets its contract: the block is lent, and what the callee says of it is said of the simulation's block.
use Rattle.sim_layout.proofs.LendLaws.{server-written}
use lib.ListN.{set, length-set}
use Rattle.sim_layout.proofs.rise_server.Goals as goal

pub returns : goal.returns
returns c = let a = c.args in
    server-written a.w.now a.j c.requires (λ b. set b 0 1) _ (λ l. length-set l 0 1) c.rise.ensures
