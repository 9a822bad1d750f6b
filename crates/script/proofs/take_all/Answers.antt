-- Each turn takes one byte.
use Rattle.std.proofs.Common.{◌≡◌, length, arith}
use Rattle.script.proofs.FeedLaws.{feeding_more, feeding_short, feeding_all}
use Rattle.script.proofs.take_all.Goals as goal

pub returns-then-out-at-lt-MAX_PRINTED : goal.returns-then-out-at-lt-MAX_PRINTED
returns-then-out-at-lt-MAX_PRINTED c = feeding_short c.loop-used.invariant c.if-out-at-lt-MAX_PRINTED.true

pub loop-used-preserved : goal.loop-used-preserved
loop-used-preserved c =
    feeding_more c.loop-used.invariant (omega arith) c.if-out-at-lt-MAX_PRINTED.false _ _ _ c.take-at.ensures

pub returns : goal.returns
returns c =
    let e : c.loop-used.used ≡ length c.args.input.now = omega arith in
    rw e at (feeding_all c.loop-used.invariant (omega arith))
