-- `text_knowledge::put_box` meets its contract: whose box it is, then its entries.
use Rattle.text_sheet.proofs.SheetLaws.{then}
use Rattle.text_knowledge.specs.Boxes.{box_text}
use borrow.Author.Rules.{rules}
use Rattle.text_knowledge.proofs.put_box.Statement.{statement}
use Rattle.text_knowledge.proofs.put_box.Tie as tie

returns : tie.Need-returns
unfolding box_text
returns c =
    then _ _ _ c.put_receiver-p.ensures (then _ _ _ c.put-q.ensures (then _ _ _ c.put_entries-e.ensures c.put.ensures))

pub put_box_spec : {M : Type 1} → statement M
put_box_spec =
    tie.close
    (tie.spec
    (λ c κs. search rules)
    (λ c κs. search rules)
    (λ c κs. search rules)
    (λ c κs. search rules)
    (λ c. search rules)
    returns)
