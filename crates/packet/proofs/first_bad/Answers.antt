-- Each turn takes the part at the place reached: if it is read, the judging goes on behind it.
use Rattle.std.proofs.Common.{◌≡◌, Err, rules, arith}
use Rattle.packet.proofs.ContentsLaws.{its-part, judging_more, judging_bad, judging_done}
use Rattle.packet.proofs.first_bad.Goals as goal

pub overflow_add-end : goal.overflow_add-end
overflow_add-end c = omega (arith, (its-part _ _ _ c.loop-at.invariant _ c.loop-at-test.true c.size_at.ensures).within)

pub slice_bounds-read-end : goal.slice_bounds-read-end
slice_bounds-read-end c = (its-part _ _ _ c.loop-at.invariant _ c.loop-at-test.true c.size_at.ensures).within

pub returns-in_err-read : goal.returns-in_err-read
returns-in_err-read c =
    let e : c.from_residual.result ≡ Err c.in_err-read.field-0.0 = search rules in
    rw e (judging_bad _ _ _ c.loop-at.invariant _ c.loop-at-test.true c.size_at.ensures _ c.read.ensures.value _ c.in_err-read.was)

pub loop-at-smaller : goal.loop-at-smaller
loop-at-smaller c =
    let p = its-part _ _ _ c.loop-at.invariant _ c.loop-at-test.true c.size_at.ensures in
    omega (arith, p.least, p.within)

pub loop-at-preserved : goal.loop-at-preserved
loop-at-preserved c =
    judging_more _ _ _ c.loop-at.invariant _ c.loop-at-test.true c.size_at.ensures _ c.read.ensures.value _ _ c.in_ok-read.was

pub returns : goal.returns
returns c = judging_done _ _ _ c.loop-at.invariant c.loop-at-test.false
