-- `commission::say` is safe: what was put ends within the buffer.
use Rattle.std.proofs.Common.{arith}
use Rattle.text_sheet.proofs.SheetLaws.{placed}
use Rattle.commission.proofs.say.Goals as goal

pub slice_bounds-write_out-end : goal.slice_bounds-write_out-end
slice_bounds-write_out-end c = omega (arith, placed _ _ _ _ c.put_report-said.ensures)
