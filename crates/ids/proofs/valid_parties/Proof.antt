-- `ids::valid_parties` meets its contract: the first test decides the definition's `&&`.
use borrow.Author.Rules.{rules}
use Rattle.ids.proofs.Choice.{and_goes_on, and_stops}
use Rattle.ids.specs.Limits.{valid_parties_up_to}
use Rattle.ids.proofs.valid_parties.Statement.{statement}
use Rattle.ids.proofs.valid_parties.Tie as tie

pub valid_parties_spec : {M : Type 1} → statement M
unfolding valid_parties_up_to
valid_parties_spec =
    tie.close
    (tie.spec
    (λ c κs. search rules)
    (λ c κs. search rules)
    (λ c. search and_goes_on)
    (λ c. search and_stops))
