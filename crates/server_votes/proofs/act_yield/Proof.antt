-- `server_votes::act_yield` meets its contract: whether the request is the owner decides.
use Rattle.server_votes.proofs.ActLaws.{yields, yields_not}
use borrow.Author.Rules.{rules}
use Rattle.server_votes.proofs.act_yield.Statement.{statement}
use Rattle.server_votes.proofs.act_yield.Tie as tie

pub act_yield_spec : {M : Type 1} → statement M
act_yield_spec =
    tie.close
    (tie.spec
    (λ c κs. search rules)
    (λ c κs. search rules)
    (λ c κs. search rules)
    (λ c. search rules)
    (λ c. search yields)
    (λ c κs. search rules)
    (λ c. search yields_not))
