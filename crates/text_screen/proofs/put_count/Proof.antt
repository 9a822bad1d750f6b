-- `text_screen::put_count` meets its contract: the newline goes behind the number.
use Rattle.text_sheet.proofs.SheetLaws.{then}
use borrow.Author.Rules.{rules}
use Rattle.text_screen.proofs.put_count.Statement.{statement}
use Rattle.text_screen.proofs.put_count.Tie as tie

pub put_count_spec : {M : Type 1} → statement M
put_count_spec =
    tie.close
    (tie.spec
    (λ c κs. search rules)
    (λ c κs. search rules)
    (λ c. search rules)
    (λ c. then _ _ _ c.put_with-p.ensures c.put.ensures))
