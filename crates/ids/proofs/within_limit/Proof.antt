-- `ids::within_limit` meets its contract: the first test decides the definition's `&&`.
use borrow.Author.Tests.{le-leb, lt-leb}
use Rattle.ids.proofs.within_limit.Statement.{statement}
use Rattle.ids.proofs.within_limit.Tie as tie

pub within_limit_spec : {M : Type 1} → statement M
within_limit_spec =
    tie.close
    (tie.spec
    (λ c. simp (le-leb _ _ c.if-x-ge1.true))
    (λ c. simp (lt-leb _ _ c.if-x-ge1.false)))
