-- `text_knowledge::put_supporters` meets its contract: the word, then the numbers.
use Rattle.text_sheet.proofs.SheetLaws.{then}
use borrow.Author.Rules.{rules}
use Rattle.text_knowledge.proofs.put_supporters.Statement.{statement}
use Rattle.text_knowledge.proofs.put_supporters.Tie as tie

returns : tie.Need-returns
returns c =
    then _ _ _ c.put-p.ensures c.put_supports.ensures

pub put_supporters_spec : {M : Type 1} → statement M
put_supporters_spec =
    tie.close
    (tie.spec
    (λ c κs. search rules)
    (λ c κs. search rules)
    (λ c. search rules)
    returns)
