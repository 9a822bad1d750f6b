-- `wire::valid_fields` meets its contract: the first test decides the definition's `&&`.
use Rattle.ids.proofs.Choice.{and_goes_on, and_stops}
use Rattle.wire.specs.Format.{valid_fields_up_to}
use borrow.Author.Rules.{rules}
use Rattle.wire.proofs.valid_fields.Statement.{statement}
use Rattle.wire.proofs.valid_fields.Tie as tie

pub valid_fields_spec : {M : Type 1} → statement M
unfolding valid_fields_up_to
valid_fields_spec =
    tie.close
    (tie.spec
    (λ c κs. search rules)
    (λ c κs. search rules)
    (λ c. search and_goes_on)
    (λ c. search and_stops))
