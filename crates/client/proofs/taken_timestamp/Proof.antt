-- `client::taken_timestamp` meets its contract: the first test decides the definition's `&&`.
use borrow.Author.Tests.{le-leb, lt-leb}
use Rattle.client.proofs.taken_timestamp.Statement.{statement}
use Rattle.client.proofs.taken_timestamp.Tie as tie

pub taken_timestamp_spec : {M : Type 1} → statement M
taken_timestamp_spec =
    tie.close
    (tie.spec
    (λ c. simp (le-leb _ _ c.if-t-ge1.true))
    (λ c. simp (lt-leb _ _ c.if-t-ge1.false)))
