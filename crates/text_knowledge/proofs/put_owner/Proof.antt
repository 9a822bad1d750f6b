-- `text_knowledge::put_owner` meets its contract: by the owner.
use Rattle.text_sheet.proofs.SheetLaws.{then}
use Rattle.text_knowledge.specs.Mail.{owner_text}
use borrow.Author.Rules.{rules}
use Rattle.text_knowledge.proofs.put_owner.Statement.{statement}
use Rattle.text_knowledge.proofs.put_owner.Tie as tie

returns : tie.Need-returns-in-None
unfolding owner_text
returns c = rw c.in-None.is c.put.ensures

returns-2 : tie.Need-returns-in-Some
unfolding owner_text
returns-2 c =
    rw c.in-Some.is (then _ _ _ c.put-p.ensures c.put_request.ensures)

pub put_owner_spec : {M : Type 1} → statement M
put_owner_spec =
    tie.close
    (tie.spec
    (λ c. search rules)
    (λ c κs. search rules)
    (λ c. search rules)
    (λ c κs. search rules)
    (λ c κs. search rules)
    (λ c. search rules)
    returns
    (λ c. search rules)
    returns-2)
