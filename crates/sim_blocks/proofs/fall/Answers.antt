-- `sim_blocks::fall` meets its contract: the first word, then the flags.
use lib.ListN.{length}
use lib.ListN.{set}
use Rattle.sim_blocks.proofs.BlockParts.{length-cleared}
use lib.ListN.{length-set}
use mathlib.Core.Path.{ap, ◌∙◌}
use Rattle.sim_blocks.proofs.fall.Goals as goal

pub shape_of-b : goal.shape_of-b
shape_of-b c = ap length c.clear_flags.ensures ∙
    length-cleared (set c.args.b.now 0 0) ∙
    length-set c.args.b.now 0 0
