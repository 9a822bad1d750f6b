-- A space, one byte more, and the end.
use Rattle.std.proofs.Common.{arith}
use Rattle.script_lines.proofs.WordLaws.{passes_more, passes_stop, passes_all}
use Rattle.script_lines.proofs.word_end.Goals as goal

pub returns-then-line-i-eq32 : goal.returns-then-line-i-eq32
returns-then-line-i-eq32 c = passes_stop _ _ _ c.loop-i.invariant c.loop-i-test.true c.if-line-i-eq32.true

pub loop-i-preserved : goal.loop-i-preserved
loop-i-preserved c = search passes_more

pub returns : goal.returns
returns c = passes_all _ _ _ c.loop-i.invariant (omega arith)
