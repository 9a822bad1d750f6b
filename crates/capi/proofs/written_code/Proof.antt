-- `capi::written_code` meets its contract: each arm is given which answer `w` is.
use borrow.Author.Rules.{rules}
use Rattle.capi.proofs.written_code.Statement.{statement}
use Rattle.capi.proofs.written_code.Tie as tie

pub written_code_spec : {M : Type 1} → statement M
written_code_spec =
    tie.close
    (tie.spec
    (λ c. search rules)
    (λ c. search rules)
    (λ c κs. search rules)
    (λ c. search rules)
    (λ c. rw c.in-Err.is c.code_of.ensures))
