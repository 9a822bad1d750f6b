-- `text_knowledge::put_standing` meets its contract: by the mark.
use borrow.Author.Rules.{rules}
use Rattle.text_knowledge.proofs.put_standing.Statement.{statement}
use Rattle.text_knowledge.proofs.put_standing.Tie as tie

pub put_standing_spec : {M : Type 1} → statement M
put_standing_spec =
    tie.close
    (tie.spec
    (λ c κs. search rules)
    (λ c. search rules)
    (λ c. let d = c.before.before in rw c.if-delivered.true c.put.ensures)
    (λ c κs. search rules)
    (λ c. search rules)
    (λ c. let d = c.before.before in rw c.if-delivered.false c.put-2.ensures))
