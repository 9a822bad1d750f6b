-- `server_votes::act_inquiry` meets its contract: whether there is an owner decides.
use Rattle.server_votes.proofs.ActLaws.{inquires_nobody, inquires}
use borrow.Author.Rules.{rules}
use Rattle.server_votes.proofs.act_inquiry.Statement.{statement}
use Rattle.server_votes.proofs.act_inquiry.Tie as tie

pub act_inquiry_spec : {M : Type 1} → statement M
act_inquiry_spec =
    tie.close
    (tie.spec
    (λ c. search rules)
    (λ c κs. search rules)
    (λ c. search rules)
    (λ c κs. search rules)
    (λ c. search inquires_nobody)
    (λ c. search inquires))
