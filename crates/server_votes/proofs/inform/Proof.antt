-- `server_votes::inform` meets its contract: whether the client is the owner decides.
use Rattle.server_votes.proofs.MoveLaws.{informs_not, informs}
use borrow.Author.Rules.{rules}
use Rattle.server_votes.proofs.inform.Statement.{statement}
use Rattle.server_votes.proofs.inform.Tie as tie

pub inform_spec : {M : Type 1} → statement M
inform_spec =
    tie.close
    (tie.spec
    (λ c κs. search rules)
    (λ c. search informs_not)
    (λ c. search informs))
