-- `server_votes::promote` meets its contract: the head of the queue leads, if there is one.
use Rattle.server_votes.proofs.MoveLaws.{promoted_none, promoted_head}
use borrow.Author.Rules.{rules}
use Rattle.server_votes.proofs.promote.Statement.{statement}
use Rattle.server_votes.proofs.promote.Tie as tie

pub promote_spec : {M : Type 1} → statement M
promote_spec =
    tie.close
    (tie.spec
    (λ c κs. search rules)
    (λ c. search promoted_none)
    (λ c κs. search rules)
    (λ c κs. search rules)
    (λ c. search rules)
    (λ c κs. search rules)
    (λ c. search rules)
    (λ c. search promoted_head))
