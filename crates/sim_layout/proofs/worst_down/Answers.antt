-- One block more is the larger of the most so far and its own.
use Rattle.sim_blocks.specs.Blocks.{client_place}
use Rattle.sim_layout.specs.Layout.{client_words}
use Rattle.sim_layout.proofs.TestLaws.{worst-start, worst-step}
use Rattle.sim_layout.proofs.worst_down.Goals as goal

pub loop-i-init : goal.loop-i-init
loop-i-init c = worst-start client_place (client_words c.args.w.now)

pub loop-i-preserved : goal.loop-i-preserved
loop-i-preserved c =
    worst-step client_place (client_words c.args.w.now) _ _ _ _ c.loop-i.invariant c.downs_of.ensures c.max-most.ensures
