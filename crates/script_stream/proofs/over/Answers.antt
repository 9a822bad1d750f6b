-- `script_stream::over` meets its contract: each return is one stage.
use Rattle.std.proofs.Common.{arith}
use Rattle.script.proofs.LineLaws.{sound}
use Rattle.script_stream.proofs.OverLaws.{word-closed, word-opening, word-running}
use Rattle.script_stream.proofs.over.Goals as goal

pub bounds-w-0 : goal.bounds-w-0
bounds-w-0 c = omega (arith, (sound _ c.requires).long)

pub returns-then-w-eq-CLOSED : goal.returns-then-w-eq-CLOSED
returns-then-w-eq-CLOSED c = search word-closed

pub bounds-w-0-2 : goal.bounds-w-0-2
bounds-w-0-2 c = omega (arith, (sound _ c.requires).long)

pub returns-then-w-eq-OPENING : goal.returns-then-w-eq-OPENING
returns-then-w-eq-OPENING c = search word-opening

pub bounds-w-1 : goal.bounds-w-1
bounds-w-1 c = omega (arith, (sound _ c.requires).long)

pub returns : goal.returns
returns c = search word-running
