-- `ids::valid_owner` meets its contract: each arm is given which owner `o` is.
use borrow.Author.Rules.{rules}
use Rattle.ids.specs.Limits.{valid_owner}
use Rattle.ids.proofs.valid_owner.Statement.{statement}
use Rattle.ids.proofs.valid_owner.Tie as tie

pub valid_owner_spec : {M : Type 1} → statement M
unfolding valid_owner
valid_owner_spec =
    tie.close
    (tie.spec
    (λ c. search rules)
    (λ c. search rules)
    (λ c κs. search rules)
    (λ c. search rules)
    (λ c. rw c.in-Some.is c.valid_request.ensures))
