-- `client::enough_own` meets its contract by that of `own_count`.
use Rattle.client_responses.specs.Figure1.{enough}
use borrow.Author.Rules.{rules}
use Rattle.client.proofs.enough_own.Statement.{statement}
use Rattle.client.proofs.enough_own.Tie as tie

pub enough_own_spec : {M : Type 1} → statement M
unfolding enough
enough_own_spec =
    tie.close
    (tie.spec
    (λ c κs. search rules)
    (λ c. rw c.own_count.ensures))
