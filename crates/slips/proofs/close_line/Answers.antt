-- `slips::close_line` meets its contract: a newline ends the line, and leaves a valid state.
use Rattle.std.proofs.Common.{arith}
use Rattle.script.proofs.LineLaws.{sound}
use Rattle.slips.proofs.close_line.Goals as goal

pub bounds-w-4 : goal.bounds-w-4
bounds-w-4 g c = omega (arith, (sound _ c.requires.0).long)
