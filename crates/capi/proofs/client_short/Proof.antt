-- `capi::client_short` meets its contract: the step is that of the row copied.
use Rattle.capi.proofs.StepLaws.{client_short_answers}
use borrow.Author.Rules.{rules}
use Rattle.capi.proofs.client_short.Statement.{statement}
use Rattle.capi.proofs.client_short.Tie as tie

pub client_short_spec : {M : Type 1} → statement M
client_short_spec =
    tie.close
    (tie.spec
    (λ c. search rules)
    (λ c κs. search rules)
    (λ c. search rules)
    (λ c. search rules)
    (λ c κs. search rules)
    (λ c κs. search rules)
    (λ c. search client_short_answers))
