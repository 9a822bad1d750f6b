-- `text_screen::put_difference` meets its contract: the smaller number is taken from the larger.
use Rattle.text_sheet.proofs.SheetLaws.{then}
use Rattle.text_screen.proofs.ScreenLaws.{signed_below, signed-from}
use borrow.Author.Rules.{rules}
use Rattle.text_screen.proofs.put_difference.Statement.{statement}
use Rattle.text_screen.proofs.put_difference.Tie as tie

returns : tie.Need-returns-then-a-b
returns c =
    rw (signed_below _ _ c.if-a-b.true) (then _ _ _ c.put-p.ensures c.put_with.ensures)

returns-2 : tie.Need-returns
returns-2 c =
    rw (signed-from _ _ c.if-a-b.false) (then _ _ _ c.put-p.ensures c.put_number.ensures)

pub put_difference_spec : {M : Type 1} → statement M
put_difference_spec =
    tie.close
    (tie.spec
    (λ c κs. search rules)
    (λ c. search rules)
    (λ c κs. search rules)
    (λ c. search rules)
    returns
    (λ c κs. search rules)
    (λ c. search rules)
    returns-2)
