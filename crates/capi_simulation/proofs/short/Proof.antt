-- `capi_simulation::short` meets its contract: words of another number are no simulation, and else the copy says what the words would.
use Rattle.capi_simulation.proofs.CallLaws.{short-size, short-accepted, short-refused}
use borrow.Author.Rules.{rules}
use Rattle.capi_simulation.proofs.short.Statement.{statement}
use Rattle.capi_simulation.proofs.short.Tie as tie

pub short_spec : {M : Type 1} → statement M
short_spec =
    tie.close
    (tie.spec
    (λ c κs. search rules)
    (λ c. search short-size)
    (λ c. search rules)
    (λ c κs. search rules)
    (λ c κs. search rules)
    (λ c. search rules)
    (λ c κs. search rules)
    (λ c. search rules)
    (λ c κs. search rules)
    (λ c. search short-accepted)
    (λ c. search short-refused))
