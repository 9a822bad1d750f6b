-- `server::empty_server` meets its contract: the head, and an empty row.
use borrow.Author.Rules.{rules}
use Rattle.server.proofs.RecordLaws.{with-head}
use Rattle.server.proofs.empty_server.Statement.{statement}
use Rattle.server.proofs.empty_server.Tie as tie

pub empty_server_spec : {M : Type 1} → statement M
empty_server_spec = tie.close (tie.spec (λ c κs. search rules) (λ c. search with-head))
