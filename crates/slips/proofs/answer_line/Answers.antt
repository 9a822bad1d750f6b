-- `slips::answer_line` meets its contract: the state has taken the line in, and what is shown behind it changes nothing of the state.
use Rattle.std.proofs.Common.{arith, rules}
use Rattle.script.proofs.LineLaws.{sound}
use Rattle.script_stream.proofs.ReadLaws.{answered-taken}
use Rattle.slips.proofs.answer_line.Goals as goal

pub bounds-w-1 : goal.bounds-w-1
bounds-w-1 g c = omega (arith, (sound _ c.requires.0).long)

pub bounds-w-1-2 : goal.bounds-w-1-2
bounds-w-1-2 g c = omega (arith, (sound _ c.answer_part.ensures.again).long)

pub returns-then-w-before : goal.returns-then-w-before
returns-then-w-before g c = (c.answer_part.ensures.again, λ z. answered-taken c.answer_part.ensures (search rules))

pub returns : goal.returns
returns g c = (c.answer_part.ensures.again, λ z. answered-taken c.answer_part.ensures (search rules))
