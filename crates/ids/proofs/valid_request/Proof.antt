-- `ids::valid_request` meets its contract: the client's test decides the definition's `&&`.
use borrow.Author.Rules.{rules}
use Rattle.ids.specs.Limits.{valid_request}
use Rattle.ids.proofs.Choice.{and_goes_on, and_stops}
use Rattle.ids.proofs.valid_request.Statement.{statement}
use Rattle.ids.proofs.valid_request.Tie as tie

pub valid_request_spec : {M : Type 1} → statement M
unfolding valid_request
valid_request_spec =
    tie.close
    (tie.spec
    (λ c κs. search rules)
    (λ c κs. search rules)
    (λ c. search and_goes_on)
    (λ c. search and_stops))
