-- `text_knowledge::put_knowledge` meets its contract: a server that is down has forgotten everything.
use borrow.Author.Rules.{rules}
use Rattle.text_knowledge.proofs.put_knowledge.Statement.{statement}
use Rattle.text_knowledge.proofs.put_knowledge.Tie as tie

pub put_knowledge_spec : {M : Type 1} → statement M
put_knowledge_spec =
    tie.close
    (tie.spec
    (λ c κs. search rules)
    (λ c. search rules)
    (λ c. rw c.if-up.true c.put_votes.ensures)
    (λ c κs. search rules)
    (λ c. search rules)
    (λ c. rw c.if-up.false c.put.ensures))
