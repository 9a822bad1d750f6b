-- `packet::total_of` meets its contract: each test says what the total is not.
use Rattle.packet.proofs.TotalLaws.{total-few, total-small, total_past, total-found}
use borrow.Author.Rules.{rules}
use Rattle.packet.proofs.total_of.Statement.{statement}
use Rattle.packet.proofs.total_of.Tie as tie

pub total_of_spec : {M : Type 1} → statement M
total_of_spec =
    tie.close
    (tie.spec
    (λ c. search total-few)
    (λ c. search rules)
    (λ c. search rules)
    (λ c κs. search rules)
    (λ c. search total-small)
    (λ c. search total_past)
    (λ c. search total-found))
