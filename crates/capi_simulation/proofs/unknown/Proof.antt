-- `capi_simulation::unknown` meets its contract: 21 comes before 17.
use Rattle.capi_simulation.proofs.CallLaws.{unknown_valid, unknown_invalid}
use borrow.Author.Rules.{rules}
use Rattle.capi_simulation.proofs.unknown.Statement.{statement}
use Rattle.capi_simulation.proofs.unknown.Tie as tie

pub unknown_spec : {M : Type 1} → statement M
unknown_spec =
    tie.close
    (tie.spec
    (λ c κs. search rules)
    (λ c κs. search rules)
    (λ c. search unknown_valid)
    (λ c κs. search rules)
    (λ c. search unknown_invalid))
