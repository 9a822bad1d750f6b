-- `text_knowledge::put_support` meets its contract: the number stands there if the response is the request.
use Rattle.text_knowledge.proofs.KnowledgeLaws.{support_own, support_other}
use Rattle.text_sheet.specs.Sheet.{puts}
use borrow.Author.Rules.{rules}
use Rattle.text_knowledge.proofs.put_support.Statement.{statement}
use Rattle.text_knowledge.proofs.put_support.Tie as tie

returns : tie.Need-returns-then-is_own
returns c =
    rw (support_own _ _ _ _ c.is_own.ensures
    c.if-is_own.true) c.put_with.ensures

returns-2 : tie.Need-returns
unfolding puts
returns-2 c = rw (support_other _ _ _ _ c.is_own.ensures c.if-is_own.false)

pub put_support_spec : {M : Type 1} → statement M
put_support_spec =
    tie.close
    (tie.spec
    (λ c κs. search rules)
    (λ c. search rules)
    (λ c κs. search rules)
    (λ c. search rules)
    returns
    returns-2)
