-- What is at the place is known from where the search for it ended.
use Rattle.std.proofs.Common.{◌≡◌, ◌<◌, length, Err, rules, arith}
use Rattle.packet.proofs.WalkLaws.{size-within}
use Rattle.packet.proofs.ContentsLaws.{here}
use Rattle.packet.proofs.PlaceLaws.{place_past, place-between, place_end, place-message, place_bad}
use Rattle.packet.proofs.message_at.Goals as goal

pub returns-then-bytes-at : goal.returns-then-bytes-at
returns-then-bytes-at c = place_past c.args.bytes.now _ c.requires.0 c.requires.1 c.if-bytes-at.true

pub returns-then-place-at : goal.returns-then-place-at
returns-then-place-at c = place-between _ _ _ c.reach-place.ensures.1 c.reach-place.ensures.0 c.if-place-at.true

pub overflow_add-end : goal.overflow_add-end
overflow_add-end c = omega (arith, size-within _ _ _ c.reach-place.ensures.1.within c.size_at.ensures)

pub returns-then-place-bytes : goal.returns-then-place-bytes
returns-then-place-bytes c = place_end _ _ _ c.reach-place.ensures.1 c.if-place-at.false c.if-place-bytes.true

pub slice_bounds-read-end : goal.slice_bounds-read-end
slice_bounds-read-end c =
    let inside : c.reach-place.result < length c.args.bytes.now = omega (arith, c.reach-place.ensures.1.within, c.if-place-bytes.false) in
    (here c.args.bytes.now c.args.at c.reach-place.result c.size_at.result c.reach-place.ensures.1 inside c.size_at.ensures).within

pub returns-in_err-m : goal.returns-in_err-m
returns-in_err-m c =
    let inside : c.reach-place.result < length c.args.bytes.now = omega (arith, c.reach-place.ensures.1.within, c.if-place-bytes.false) in
    let e : c.from_residual.result ≡ Err c.in_err-m.field-0.0 = search rules in
    rw e (place_bad _ _ _ c.reach-place.ensures.1 c.if-place-at.false _ inside c.size_at.ensures _ c.read.ensures.value _ c.in_err-m.was)

pub returns : goal.returns
returns c =
    let inside : c.reach-place.result < length c.args.bytes.now = omega (arith, c.reach-place.ensures.1.within, c.if-place-bytes.false) in
    place-message _ _ _ c.reach-place.ensures.1 c.if-place-at.false _ inside c.size_at.ensures _ c.read.ensures.value _ _ c.in_ok-m.was
