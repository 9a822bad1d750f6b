-- Each turn copies one byte.
use native.Mathlib.Omega.{arith}
use Rattle.script.proofs.LineLaws.{word_small, copy_more, copy_all}
use Rattle.script.proofs.line_of.Goals as goal

pub overflow_cast-line : goal.overflow_cast-line
overflow_cast-line c = omega (arith, word_small c.args.w.now c.requires c.loop-i.i (omega arith))

pub loop-i-preserved : goal.loop-i-preserved
loop-i-preserved c = copy_more c.args.w.now c.requires _ _ _ c.loop-i.invariant (omega arith)

pub returns : goal.returns
returns c = copy_all c.args.w.now c.requires _ _ _ (omega (arith, c.told-line)) c.loop-i.invariant (omega (arith, c.loop-i-test.false))
