-- `text_knowledge::put_life` meets its contract: a fallen client has no text.
use borrow.Author.Rules.{rules}
use Rattle.text_knowledge.proofs.put_life.Statement.{statement}
use Rattle.text_knowledge.proofs.put_life.Tie as tie

pub put_life_spec : {M : Type 1} → statement M
put_life_spec =
    tie.close
    (tie.spec
    (λ c κs. search rules)
    (λ c. search rules)
    (λ c. rw c.if-living.true c.put_state.ensures)
    (λ c κs. search rules)
    (λ c. search rules)
    (λ c. rw c.if-living.false c.put.ensures))
