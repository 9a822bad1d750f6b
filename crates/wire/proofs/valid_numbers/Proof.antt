-- `wire::valid_numbers` meets its contract: the first test decides the definition's `&&`.
use Rattle.ids.proofs.Choice.{and_goes_on, and_stops}
use Rattle.wire.specs.Format.{valid_numbers_up_to}
use borrow.Author.Rules.{rules}
use Rattle.wire.proofs.valid_numbers.Statement.{statement}
use Rattle.wire.proofs.valid_numbers.Tie as tie

pub valid_numbers_spec : {M : Type 1} → statement M
unfolding valid_numbers_up_to
valid_numbers_spec =
    tie.close
    (tie.spec
    (λ c κs. search rules)
    (λ c κs. search rules)
    (λ c. search and_goes_on)
    (λ c. search and_stops))
