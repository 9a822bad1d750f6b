-- `server_votes::act` meets its contract: each arm is given which tag it is.
use Rattle.server_votes.proofs.ActLaws.{acts_one, acts_two, releases}
use borrow.Author.Rules.{rules}
use Rattle.server_votes.proofs.act.Statement.{statement}
use Rattle.server_votes.proofs.act.Tie as tie

pub act_spec : {M : Type 1} → statement M
act_spec =
    tie.close
    (tie.spec
    (λ c. search rules)
    (λ c κs. search rules)
    (λ c. search rules)
    (λ c κs. search rules)
    (λ c. search rules)
    (λ c κs. search rules)
    (λ c. search rules)
    (λ c κs. search rules)
    (λ c. search rules)
    (λ c. search acts_one)
    (λ c. search rules)
    (λ c. search acts_two)
    (λ c. search rules)
    (λ c. search releases)
    (λ c. search rules)
    (λ c. search acts_two))
