-- The total, then the judgement of what stands behind it, then the place.
use Rattle.std.proofs.Common.{◌≡◌, Err, rules, arith}
use Rattle.packet.proofs.PlaceLaws.{next_frameless, its-length, next-refused, next-carried, next-found}
use Rattle.packet.proofs.SaysLaws.{next-said}
use Rattle.packet.proofs.next_at.Goals as goal

pub returns-then-total-eq0 : goal.returns-then-total-eq0
returns-then-total-eq0 c =
    let said = next-said _ _ _ (next_frameless _ _ _ c.total_of-total.ensures c.if-total-eq0.true) in
    record { value = said.0; numbers = said.1 }

pub slice_bounds-whole-end : goal.slice_bounds-whole-end
slice_bounds-whole-end c = (its-length _ 0 _ c.total_of-total.ensures c.if-total-eq0.false).1

pub judge-requires : goal.judge-requires
judge-requires c = omega (arith, its-length _ 0 _ c.total_of-total.ensures c.if-total-eq0.false)

pub returns-in_err-judge : goal.returns-in_err-judge
returns-in_err-judge c =
    let e : c.from_residual.result ≡ Err c.in_err-judge.field-0.0 = search rules in
    let said = next-said _ _ _ (next-refused _ _ _ c.total_of-total.ensures c.if-total-eq0.false _ c.in_err-judge.ensures) in
    record { value = rw e said.0; numbers = rw e said.1 }

pub message_at-requires : goal.message_at-requires
message_at-requires c = next-carried _ 0 _ c.total_of-total.ensures c.if-total-eq0.false c.in_ok-judge.ensures

pub returns : goal.returns
returns c =
    let said = next-said _ _ _ (next-found _ _ _ c.total_of-total.ensures c.if-total-eq0.false c.in_ok-judge.ensures _ c.message_at.ensures) in
    record { value = said.0; numbers = said.1 }
