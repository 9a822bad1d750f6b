-- Each turn puts one client.
use Rattle.sim_changes.proofs.Opening.{putting_none, putting_more, length-client}
use Rattle.sim_changes.proofs.new_clients.Goals as goal

pub loop-i-init : goal.loop-i-init
loop-i-init c = putting_none _ _ _

pub loop-i-preserved : goal.loop-i-preserved
loop-i-preserved c =
    putting_more _ _ _ _ _ c.loop-i.invariant (λ k l. length-client c.args.n c.args.m k l) c.loop-i-test.true _ c.new_client.ensures
