-- `words::fit` meets its contract: each test is one part of `fits`.
use Rattle.words.proofs.MessagesLaws.{fit_kind, fit_client, fit_server, fit_owner}
use Rattle.words.proofs.fit.Statement.{statement}
use Rattle.words.proofs.fit.Tie as tie

pub fit_spec : {M : Type 1} → statement M
fit_spec =
    tie.close
    (tie.spec
    (λ c. search fit_kind)
    (λ c. search fit_client)
    (λ c. search fit_server)
    (λ c. search fit_owner))
