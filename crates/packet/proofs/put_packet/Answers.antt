-- One byte more, and behind the total's bytes all of them.
use Rattle.std.proofs.Common.{◌∙◌}
use Rattle.packet.proofs.PackLaws.{laying_start, laying_more, laying_done, laid_behind}
use Rattle.packet.proofs.put_packet.Goals as goal

pub loop-i-init : goal.loop-i-init
loop-i-init c = laying_start _ _

pub loop-i-preserved : goal.loop-i-preserved
loop-i-preserved c = search laying_more

pub returns : goal.returns
returns c =
    laid_behind _ _ _ (c.copy_from_slice.ensures.after ∙ c.to_le_bytes.ensures) c.requires.0 _ (laying_done _ _ _ _ c.loop-i.invariant c.loop-i-test.false)
