-- `client::valid_sizes` meets its contract: the first test decides the definition's `&&`.
use Rattle.ids.proofs.Choice.{and_goes_on, and_stops}
use borrow.Author.Rules.{rules}
use Rattle.client.proofs.valid_sizes.Statement.{statement}
use Rattle.client.proofs.valid_sizes.Tie as tie

pub valid_sizes_spec : {M : Type 1} → statement M
valid_sizes_spec =
    tie.close
    (tie.spec
    (λ c κs. search rules)
    (λ c κs. search rules)
    (λ c. search and_goes_on)
    (λ c. search and_stops))
