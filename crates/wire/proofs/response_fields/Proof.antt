-- `wire::response_fields` meets its contract: each arm is given which owner `o` is.
use borrow.Author.Rules.{rules}
use Rattle.wire.proofs.response_fields.Statement.{statement}
use Rattle.wire.proofs.response_fields.Tie as tie

pub response_fields_spec : {M : Type 1} → statement M
response_fields_spec =
    tie.close
    (tie.spec
    (λ c. search rules)
    (λ c κs. search rules)
    (λ c. search rules)
    (λ c. rw c.in-None.is c.plain_fields.ensures)
    (λ c. rw c.in-Some.is))
