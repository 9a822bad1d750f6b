-- `server_votes::rotate` meets its contract: the earlier of the newcomer and the head leads.
use Rattle.server_votes.proofs.MoveLaws.{rotated_alone, rotated_first, rotated_behind}
use borrow.Author.Rules.{rules}
use Rattle.server_votes.proofs.rotate.Statement.{statement}
use Rattle.server_votes.proofs.rotate.Tie as tie

pub rotate_spec : {M : Type 1} → statement M
rotate_spec =
    tie.close
    (tie.spec
    (λ c κs. search rules)
    (λ c. search rotated_alone)
    (λ c κs. search rules)
    (λ c κs. search rules)
    (λ c κs. search rules)
    (λ c. search rules)
    (λ c. search rotated_first)
    (λ c κs. search rules)
    (λ c. search rules)
    (λ c κs. search rules)
    (λ c κs. search rules)
    (λ c. search rules)
    (λ c. search rotated_behind))
