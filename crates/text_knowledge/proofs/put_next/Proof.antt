-- `text_knowledge::put_next` meets its contract: a space, then the pair.
use Rattle.text_sheet.proofs.SheetLaws.{then}
use Rattle.text_knowledge.specs.Knowledge.{requests_text}
use borrow.Author.Rules.{rules}
use Rattle.text_knowledge.proofs.put_next.Statement.{statement}
use Rattle.text_knowledge.proofs.put_next.Tie as tie

returns : tie.Need-returns
unfolding requests_text
returns c =
    then _ _ _ c.put-p.ensures c.put_request.ensures

pub put_next_spec : {M : Type 1} → statement M
put_next_spec =
    tie.close
    (tie.spec
    (λ c κs. search rules)
    (λ c κs. search rules)
    (λ c. search rules)
    returns)
