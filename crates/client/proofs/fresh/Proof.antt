-- `client::fresh` meets its contract: the head, and an empty row.
use borrow.Author.Rules.{rules}
use Rattle.client.proofs.RecordLaws.{with-head}
use Rattle.client.proofs.fresh.Statement.{statement}
use Rattle.client.proofs.fresh.Tie as tie

pub fresh_spec : {M : Type 1} → statement M
fresh_spec = tie.close (tie.spec (λ c κs. search rules) (λ c. search with-head))
