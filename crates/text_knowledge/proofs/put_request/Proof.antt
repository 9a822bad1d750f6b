-- `text_knowledge::put_request` meets its contract: a number, a comma, a number.
use Rattle.text_sheet.proofs.SheetLaws.{then}
use borrow.Author.Rules.{rules}
use Rattle.text_knowledge.proofs.put_request.Statement.{statement}
use Rattle.text_knowledge.proofs.put_request.Tie as tie

returns : tie.Need-returns
returns c =
    then _ _ _ c.put_number-p.ensures c.put_with.ensures

pub put_request_spec : {M : Type 1} → statement M
put_request_spec =
    tie.close
    (tie.spec
    (λ c. search rules)
    (λ c κs. search rules)
    (λ c κs. search rules)
    (λ c. search rules)
    returns)
