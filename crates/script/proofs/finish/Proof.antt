-- `script::finish` meets its contract: 21, 6, or the end.
use Rattle.script.proofs.FeedLaws.{finish_invalid, finish_sound, finish_short, finish_done}
use Rattle.script.proofs.SaysLaws.{finish_said}
use borrow.Author.Rules.{rules}
use Rattle.script.proofs.finish.Statement.{statement}
use Rattle.script.proofs.finish.Tie as tie

returns : tie.Need-returns-then-not-valid
returns c =
    let a = c.args in
    finish_said _ _ _ (finish_invalid a.w.now a.out.now _ c.valid.ensures c.if-not-valid.true)

returns-2 : tie.Need-returns-then-out-lt-MAX_ENDING
returns-2 c =
    let a = c.args in
    finish_said _ _ _ (finish_short a.w.now a.out.now _ c.valid.ensures c.if-not-valid.false c.if-out-lt-MAX_ENDING.true)

close-requires : tie.Need-close-wrote-requires
close-requires c κs =
    let a = c.args in
    (finish_sound a.w.now a.out.now _ c.valid.ensures c.if-not-valid.false, c.if-out-lt-MAX_ENDING.false)

returns-3 : tie.Need-returns
returns-3 c =
    let a = c.args in
    finish_said _ _ _ (finish_done a.w.now a.out.now _ c.valid.ensures c.if-not-valid.false c.if-out-lt-MAX_ENDING.false _ _ _ c.close-wrote.ensures)

pub finish_spec : {M : Type 1} → statement M
finish_spec =
    tie.close
    (tie.spec
    (λ c κs. search rules)
    (λ c. search rules)
    returns
    (λ c. search rules)
    returns-2
    close-requires
    (λ c. search rules)
    (λ c. search rules)
    returns-3)
