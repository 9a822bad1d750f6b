-- `capi::short_answer` meets its contract: each arm is given which answer `a` is.
use borrow.Author.Rules.{rules}
use Rattle.capi.proofs.short_answer.Statement.{statement}
use Rattle.capi.proofs.short_answer.Tie as tie

pub short_answer_spec : {M : Type 1} → statement M
short_answer_spec =
    tie.close
    (tie.spec
    (λ c. search rules)
    (λ c κs. search rules)
    (λ c. search rules)
    (λ c κs. search rules)
    (λ c. search rules)
    (λ c. rw c.in-Err.is c.code_of-in-Err.ensures))
