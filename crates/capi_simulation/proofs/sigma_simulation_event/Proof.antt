-- `capi_simulation::sigma_simulation_event` meets its contract: kind and number say which line it is, and each has its call.
use Rattle.capi_simulation.proofs.CallLaws.{as_event, as_unknown, as_bad}
use borrow.Author.Rules.{rules}
use Rattle.capi_simulation.proofs.sigma_simulation_event.Statement.{statement}
use Rattle.capi_simulation.proofs.sigma_simulation_event.Tie as tie

pub sigma_simulation_event_spec : {M : Type 1} → statement M
sigma_simulation_event_spec =
    tie.close
    (tie.spec
    (λ c κs. search rules)
    (λ c κs. search rules)
    (λ c. search rules)
    (λ c κs. search rules)
    (λ c. search rules)
    (λ c κs. search rules)
    (λ c. search rules)
    (λ c κs. search rules)
    (λ c. search rules)
    (λ c. search rules)
    (λ c. search as_event)
    (λ c. search rules)
    (λ c. search as_unknown)
    (λ c. search as_bad))
