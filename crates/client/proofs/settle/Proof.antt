-- `client::settle` meets its contract: a refused answer goes with the head as it was.
use Rattle.client.proofs.StepLaws.{settled-refused, settled-taken}
use borrow.Author.Rules.{rules}
use Rattle.client.proofs.settle.Statement.{statement}
use Rattle.client.proofs.settle.Tie as tie

pub settle_spec : {M : Type 1} → statement M
settle_spec = tie.close (tie.spec (λ c κs. search rules) (λ c. search settled-refused) (λ c. search settled-taken))
