-- `wire::fields_of` meets its contract: each arm is given which message `m` is.
use Rattle.wire.specs.Format.{fields_of}
use borrow.Author.Rules.{rules}
use Rattle.wire.proofs.fields_of.Statement.{statement}
use Rattle.wire.proofs.fields_of.Tie as tie

pub fields_of_spec : {M : Type 1} → statement M
unfolding fields_of
fields_of_spec =
    tie.close
    (tie.spec
    (λ c. search rules)
    (λ c κs. search rules)
    (λ c. search rules)
    (λ c κs. search rules)
    (λ c. search rules)
    (λ c κs. search rules)
    (λ c. search rules)
    (λ c κs. search rules)
    (λ c. search rules)
    (λ c κs. search rules)
    (λ c. search rules)
    (λ c κs. search rules)
    (λ c. rw c.in-Request.is c.plain_fields.ensures)
    (λ c. rw c.in-Yield.is c.plain_fields-in-Yield.ensures)
    (λ c. rw c.in-Release.is c.plain_fields-in-Release.ensures)
    (λ c. rw c.in-Inquiry.is c.plain_fields-in-Inquiry.ensures)
    (λ c. rw c.in-Response.is c.response_fields.ensures)
    (λ c. rw c.in-Check.is c.plain_fields-in-Check.ensures))
