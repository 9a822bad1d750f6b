-- `server::valid_votes` meets its contract: each test is one part of `valid_state`.
use Rattle.server.proofs.RecordLaws.{votes_1, votes_2, votes_3, votes_4, votes_5}
use borrow.Author.Rules.{rules}
use Rattle.server.proofs.valid_votes.Statement.{statement}
use Rattle.server.proofs.valid_votes.Tie as tie

pub valid_votes_spec : {M : Type 1} → statement M
valid_votes_spec =
    tie.close
    (tie.spec
    (λ c κs. search rules)
    (λ c. search votes_1)
    (λ c κs. search rules)
    (λ c. search votes_2)
    (λ c κs. search rules)
    (λ c. search votes_3)
    (λ c κs. search rules)
    (λ c. search votes_4)
    (λ c κs. search rules)
    (λ c. search votes_5))
