-- `text_screen::put_counts` meets its contract: the second text and number go behind the first.
use Rattle.text_sheet.proofs.SheetLaws.{then}
use borrow.Author.Rules.{rules}
use Rattle.text_screen.proofs.put_counts.Statement.{statement}
use Rattle.text_screen.proofs.put_counts.Tie as tie

returns : tie.Need-returns
returns c =
    then _ _ _ c.put_with-p.ensures c.put_count.ensures

pub put_counts_spec : {M : Type 1} → statement M
put_counts_spec =
    tie.close
    (tie.spec
    (λ c κs. search rules)
    (λ c κs. search rules)
    (λ c. search rules)
    returns)
