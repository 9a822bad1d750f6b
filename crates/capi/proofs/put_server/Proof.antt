-- `capi::put_server` meets its contract: the head, and the row behind it.
use Rattle.words.proofs.RecordsLaws.{server-stored}
use borrow.Author.Rules.{rules}
use Rattle.capi.proofs.put_server.Statement.{statement}
use Rattle.capi.proofs.put_server.Tie as tie

pub put_server_spec : {M : Type 1} → statement M
put_server_spec =
    tie.close
    (tie.spec
    (λ c κs. search rules)
    (λ c κs. search rules)
    (λ c. search rules)
    (λ c. search server-stored))
