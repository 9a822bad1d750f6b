-- `script_stream::answer_part` meets its contract: the pieces so far, and one more each turn.
use Rattle.std.proofs.Common.{arith, rules}
use Rattle.script_stream.proofs.ReadLaws.{working_none, working_more, working_failed}
use Rattle.script_stream.proofs.answer_part.Goals as goal

pub loop-done-init : goal.loop-done-init
loop-done-init g c = working_none c.args.w.now c.args.part.now c.args.out.now c.requires.0 c.requires.1

pub returns-then-used-eq0 : goal.returns-then-used-eq0
returns-then-used-eq0 g c = working_failed c.loop-done.invariant c.answer_some-used.ensures.1

pub loop-done-preserved : goal.loop-done-preserved
loop-done-preserved g c =
    let e = c.answer_some-used.ensures in
    working_more c.loop-done.invariant e.1 (search rules) (search rules) (e.2 (omega (arith, c.if-used-eq0.false)))
