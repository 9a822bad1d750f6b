-- `slips::answer_lines` meets its contract: the lines so far, and one more each turn.
use Rattle.std.proofs.Common.{arith, rules}
use Rattle.script_stream.proofs.ReadLaws.{taking_none, taking_to}
use Rattle.slips.proofs.answer_lines.Goals as goal

pub loop-from-init : goal.loop-from-init
loop-from-init g c = taking_none c.args.w.now c.args.part.now c.args.out.now c.requires.0 c.requires.1

pub loop-from-preserved : goal.loop-from-preserved
loop-from-preserved g c =
    let e = c.answer_line.ensures in
    let n = c.line_behind-next.ensures in
    taking_to c.loop-from.invariant (search rules) (search rules) (omega (arith, n.0)) n.1 e.0 (e.1 (search rules))
