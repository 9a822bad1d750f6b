-- `text_knowledge::put_section` meets its contract: each section has its word.
use borrow.Author.Rules.{rules}
use Rattle.text_knowledge.proofs.put_section.Statement.{statement}
use Rattle.text_knowledge.proofs.put_section.Tie as tie

pub put_section_spec : {M : Type 1} → statement M
put_section_spec =
    tie.close
    (tie.spec
    (λ c. search rules)
    (λ c κs. search rules)
    (λ c. search rules)
    (λ c κs. search rules)
    (λ c. search rules)
    (λ c κs. search rules)
    (λ c. search rules)
    (λ c. rw c.in-Remainder.is c.put_with.ensures)
    (λ c. search rules)
    (λ c. rw c.in-Trying.is c.put_with-in-Trying.ensures)
    (λ c. search rules)
    (λ c. rw c.in-Critical.is c.put_with-in-Critical.ensures))
