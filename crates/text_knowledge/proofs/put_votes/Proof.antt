-- `text_knowledge::put_votes` meets its contract: by the owner.
use Rattle.text_sheet.proofs.SheetLaws.{then}
use Rattle.text_knowledge.specs.Knowledge.{votes_text}
use borrow.Author.Rules.{rules}
use Rattle.text_knowledge.proofs.put_votes.Statement.{statement}
use Rattle.text_knowledge.proofs.put_votes.Tie as tie

returns-2 : tie.Need-returns-in-Some
unfolding votes_text
returns-2 c =
    rw c.in-Some.is (then _ _ _ (then _ _ _ c.put-p.ensures c.put_request-e.ensures) c.put_queue.ensures)

pub put_votes_spec : {M : Type 1} → statement M
unfolding votes_text
put_votes_spec =
    tie.close
    (tie.spec
    (λ c. search rules)
    (λ c κs. search rules)
    (λ c. search rules)
    (λ c κs. search rules)
    (λ c κs. search rules)
    (λ c κs. search rules)
    (λ c. search rules)
    (λ c. rw c.in-None.is c.put.ensures)
    (λ c. search rules)
    returns-2)
