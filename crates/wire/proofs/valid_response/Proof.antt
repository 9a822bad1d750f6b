-- `wire::valid_response` meets its contract: the first test decides the definition's `&&`.
use borrow.Author.Rules.{rules}
use Rattle.ids.proofs.Choice.{and_goes_on, and_stops}
use Rattle.wire.specs.Format.{valid_response_up_to}
use Rattle.wire.proofs.valid_response.Statement.{statement}
use Rattle.wire.proofs.valid_response.Tie as tie

pub valid_response_spec : {M : Type 1} → statement M
unfolding valid_response_up_to
valid_response_spec =
    tie.close
    (tie.spec
    (λ c κs. search rules)
    (λ c κs. search rules)
    (λ c. search and_goes_on)
    (λ c. search and_stops))
