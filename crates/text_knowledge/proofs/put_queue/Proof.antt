-- `text_knowledge::put_queue` meets its contract: a queue without requests has no text.
use Rattle.text_sheet.proofs.SheetLaws.{then}
use Rattle.text_sheet.specs.Sheet.{puts}
use Rattle.text_knowledge.proofs.KnowledgeLaws.{queue-none, queue_some}
use borrow.Author.Rules.{rules}
use Rattle.text_knowledge.proofs.put_queue.Statement.{statement}
use Rattle.text_knowledge.proofs.put_queue.Tie as tie

returns-2 : tie.Need-returns
returns-2 c =
    rw (queue_some _ _ c.requires c.if-len-eq0.false) (then _ _ _ c.put-p.ensures c.put_requests.ensures)

pub put_queue_spec : {M : Type 1} → statement M
unfolding puts
put_queue_spec =
    tie.close
    (tie.spec
    (λ c. rw (queue-none _ _ c.if-len-eq0.true))
    (λ c κs. search rules)
    (λ c κs. search rules)
    (λ c. search rules)
    returns-2)
