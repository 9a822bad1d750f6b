-- `server_votes::joined` meets its contract: whether the first part tells anybody decides.
use Rattle.server_votes.proofs.ActLaws.{joins_none, joins_one}
use borrow.Author.Rules.{rules}
use Rattle.server_votes.proofs.joined.Statement.{statement}
use Rattle.server_votes.proofs.joined.Tie as tie

pub joined_spec : {M : Type 1} → statement M
joined_spec =
    tie.close
    (tie.spec
    (λ c. search rules)
    (λ c. search rules)
    (λ c. search joins_none)
    (λ c. search joins_one))
