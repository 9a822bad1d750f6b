-- `server_votes::act_request` meets its contract: the owner decides.
use Rattle.server_votes.proofs.ActLaws.{requests-again, requests-first, requests}
use borrow.Author.Rules.{rules}
use Rattle.server_votes.proofs.act_request.Statement.{statement}
use Rattle.server_votes.proofs.act_request.Tie as tie

pub act_request_spec : {M : Type 1} → statement M
act_request_spec =
    tie.close
    (tie.spec
    (λ c κs. search rules)
    (λ c κs. search rules)
    (λ c. search requests-again)
    (λ c. search rules)
    (λ c κs. search rules)
    (λ c. search rules)
    (λ c κs. search rules)
    (λ c. search requests-first)
    (λ c. search rules)
    (λ c. search requests))
