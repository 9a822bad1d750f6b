-- `server_votes::delete` meets its contract: whether the request is the owner decides.
use Rattle.server_votes.proofs.MoveLaws.{deleted-owner, deleted_waiting}
use borrow.Author.Rules.{rules}
use Rattle.server_votes.proofs.delete.Statement.{statement}
use Rattle.server_votes.proofs.delete.Tie as tie

pub delete_spec : {M : Type 1} → statement M
delete_spec =
    tie.close
    (tie.spec
    (λ c κs. search rules)
    (λ c κs. search rules)
    (λ c. search rules)
    (λ c. search deleted-owner)
    (λ c κs. search rules)
    (λ c κs. search rules)
    (λ c. search rules)
    (λ c. search deleted_waiting))
