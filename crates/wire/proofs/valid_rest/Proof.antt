-- `wire::valid_rest` meets its contract: the kind decides which numbers are left to test.
use Rattle.ids.proofs.Choice.{and_goes_on, and_stops}
use Rattle.wire.proofs.NumbersLaws.{rest-response, rest_plain}
use borrow.Author.Rules.{rules}
use Rattle.wire.proofs.valid_rest.Statement.{statement}
use Rattle.wire.proofs.valid_rest.Tie as tie

pub valid_rest_spec : {M : Type 1} → statement M
valid_rest_spec =
    tie.close
    (tie.spec
    (λ c κs. search rules)
    (λ c. search rest-response)
    (λ c κs. search rules)
    (λ c. search (rest_plain, and_goes_on))
    (λ c. search (rest_plain, and_stops)))
