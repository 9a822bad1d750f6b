-- `capi::server_send` meets its contract: no room for the counts, or what sending the messages answers.
use Rattle.capi.proofs.StepLaws.{counts-short, sent_leaves, three_storable}
use borrow.Author.Rules.{rules}
use Rattle.capi.proofs.server_send.Statement.{statement}
use Rattle.capi.proofs.server_send.Tie as tie

pub server_send_spec : {M : Type 1} → statement M
server_send_spec =
    tie.close
    (tie.spec
    (λ c κs. search rules)
    (λ c. search counts-short)
    (λ c κs. search rules)
    (λ c κs. search three_storable)
    (λ c. search rules)
    (λ c. search rules)
    (λ c. search rules)
    (λ c. search sent_leaves))
