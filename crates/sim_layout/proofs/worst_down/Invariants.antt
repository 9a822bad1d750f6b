-- The most of the first i blocks.
use Rattle.std.proofs.Common.{◌≡◌}
use Rattle.sim_blocks.specs.Regions.{blocks}
use Rattle.sim_blocks.specs.Blocks.{client_place, client_block}
use Rattle.system.specs.Places.{worst}
use Rattle.sim_layout.specs.Layout.{client_words}
use Rattle.sim_layout.proofs.worst_down.Given as goal

abbrev pub invariant-loop-i : goal.invariant-loop-i
invariant-loop-i l = l.most ≡ worst (blocks client_block client_place l.i (client_words l.w))
