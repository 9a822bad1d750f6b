-- `text_knowledge::put_slips_boxes` meets its contract: the slips, then the boxes.
use Rattle.text_sheet.proofs.SheetLaws.{then}
use borrow.Author.Rules.{rules}
use Rattle.text_knowledge.proofs.put_slips_boxes.Statement.{statement}
use Rattle.text_knowledge.proofs.put_slips_boxes.Tie as tie

returns : tie.Need-returns
returns c =
    then _ _ _ c.put_slips-p.ensures c.put_boxes.ensures

pub put_slips_boxes_spec : {M : Type 1} → statement M
put_slips_boxes_spec = tie.close (tie.spec (λ c κs. search rules) (λ c κs. search rules) (λ c. search rules) returns)
