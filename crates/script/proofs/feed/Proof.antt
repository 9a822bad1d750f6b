-- `script::feed` meets its contract: 21, 6, or the bytes one after another.
use Rattle.script.proofs.FeedLaws.{feed_invalid, feed_sound, feed_short, feed_done}
use Rattle.script.proofs.SaysLaws.{feed_said}
use borrow.Author.Rules.{rules}
use Rattle.script.proofs.feed.Statement.{statement}
use Rattle.script.proofs.feed.Tie as tie

returns : tie.Need-returns-then-not-valid
returns c =
    let a = c.args in
    feed_said _ _ _ _ (feed_invalid a.w.now a.input.now a.out.now _ c.valid.ensures c.if-not-valid.true)

returns-2 : tie.Need-returns-then-out-lt-MAX_PRINTED
returns-2 c =
    let a = c.args in
    feed_said _ _ _ _ (feed_short a.w.now a.input.now a.out.now _ c.valid.ensures c.if-not-valid.false c.if-out-lt-MAX_PRINTED.true)

take-all-requires : tie.Need-take_all-requires
take-all-requires c κs =
    let a = c.args in
    feed_sound a.w.now a.input.now a.out.now _ c.valid.ensures c.if-not-valid.false

returns-3 : tie.Need-returns
returns-3 c =
    let a = c.args in
    feed_said _ _ _ _ (feed_done a.w.now a.input.now a.out.now _ c.valid.ensures c.if-not-valid.false c.if-out-lt-MAX_PRINTED.false
    _ _ _ c.take_all.ensures)

pub feed_spec : {M : Type 1} → statement M
feed_spec =
    tie.close
    (tie.spec
    (λ c κs. search rules)
    (λ c. search rules)
    returns
    (λ c. search rules)
    returns-2
    take-all-requires
    (λ c. search rules)
    (λ c. search rules)
    returns-3)
