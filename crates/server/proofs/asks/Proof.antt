-- `server::asks` meets its contract: each arm is told which message it is.
use borrow.Author.Rules.{rules}
use Rattle.server.proofs.asks.Statement.{statement}
use Rattle.server.proofs.asks.Tie as tie

pub asks_spec : {M : Type 1} → statement M
asks_spec =
    tie.close
    (tie.spec
    (λ c. search rules)
    (λ c. search rules)
    (λ c. search rules)
    (λ c. search rules)
    (λ c. search rules)
    (λ c. search rules)
    (λ c. rw c.in-Request.is)
    (λ c. rw c.in-Yield.is)
    (λ c. rw c.in-Release.is)
    (λ c. rw c.in-Inquiry.is)
    (λ c. search rules)
    (λ c. search rules))
