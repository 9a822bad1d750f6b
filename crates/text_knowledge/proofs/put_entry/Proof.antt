-- `text_knowledge::put_entry` meets its contract: the number, then how the message stands.
use Rattle.text_sheet.proofs.SheetLaws.{then}
use borrow.Author.Rules.{rules}
use Rattle.text_knowledge.proofs.put_entry.Statement.{statement}
use Rattle.text_knowledge.proofs.put_entry.Tie as tie

returns : tie.Need-returns
returns c =
    then _ _ _ c.put_with-p.ensures c.put_standing.ensures

pub put_entry_spec : {M : Type 1} → statement M
put_entry_spec = tie.close (tie.spec (λ c κs. search rules) (λ c κs. search rules) (λ c. search rules) returns)
