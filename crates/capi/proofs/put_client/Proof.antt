-- `capi::put_client` meets its contract: the head, and the row behind it.
use Rattle.words.proofs.RecordsLaws.{client-stored}
use borrow.Author.Rules.{rules}
use Rattle.capi.proofs.put_client.Statement.{statement}
use Rattle.capi.proofs.put_client.Tie as tie

pub put_client_spec : {M : Type 1} → statement M
put_client_spec =
    tie.close
    (tie.spec
    (λ c κs. search rules)
    (λ c κs. search rules)
    (λ c. search rules)
    (λ c. search client-stored))
