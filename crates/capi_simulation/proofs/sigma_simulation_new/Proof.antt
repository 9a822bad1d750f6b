-- `capi_simulation::sigma_simulation_new` meets its contract by that of `simulation::new`.
use Rattle.capi_simulation.proofs.CallLaws.{new_made, new_refused}
use borrow.Author.Rules.{rules}
use Rattle.capi_simulation.proofs.sigma_simulation_new.Statement.{statement}
use Rattle.capi_simulation.proofs.sigma_simulation_new.Tie as tie

pub sigma_simulation_new_spec : {M : Type 1} → statement M
sigma_simulation_new_spec =
    tie.close
    (tie.spec
    (λ c κs. search rules)
    (λ c. search rules)
    (λ c. search rules)
    (λ c κs. search rules)
    (λ c. search rules)
    (λ c. (search new_made, search rules))
    (λ c. search rules)
    (λ c. (search new_refused, search rules)))
