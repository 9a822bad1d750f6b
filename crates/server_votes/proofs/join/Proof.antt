-- `server_votes::join` meets its contract: whether the client waits, and whether there is a place, decide.
use Rattle.server_votes.proofs.MoveLaws.{joined-again, joined-full, joined_new}
use borrow.Author.Rules.{rules}
use Rattle.server_votes.proofs.join.Statement.{statement}
use Rattle.server_votes.proofs.join.Tie as tie

pub join_spec : {M : Type 1} → statement M
join_spec =
    tie.close
    (tie.spec
    (λ c κs. search rules)
    (λ c κs. search rules)
    (λ c. search rules)
    (λ c. search joined-again)
    (λ c. search rules)
    (λ c. search rules)
    (λ c κs. search rules)
    (λ c. search rules)
    (λ c. search joined-full)
    (λ c κs. search rules)
    (λ c κs. search rules)
    (λ c. search rules)
    (λ c. search joined_new))
