-- `server_votes::waiting` meets its contract: the client's timestamp stands where the client is found.
use Rattle.server_votes.proofs.PartLaws.{waits, waits_not}
use borrow.Author.Rules.{rules}
use Rattle.server_votes.proofs.waiting.Statement.{statement}
use Rattle.server_votes.proofs.waiting.Tie as tie

pub waiting_spec : {M : Type 1} → statement M
waiting_spec =
    tie.close
    (tie.spec
    (λ c κs. search rules)
    (λ c κs. search rules)
    (λ c. search waits)
    (λ c. search waits_not))
