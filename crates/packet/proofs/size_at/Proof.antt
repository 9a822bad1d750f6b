-- `packet::size_at` meets its contract: each test says what the length field is not.
use Rattle.packet.proofs.WalkLaws.{size_few, size_small, size_past, size-found}
use borrow.Author.Rules.{rules}
use Rattle.packet.proofs.size_at.Statement.{statement}
use Rattle.packet.proofs.size_at.Tie as tie

pub size_at_spec : {M : Type 1} → statement M
size_at_spec =
    tie.close
    (tie.spec
    (λ c. search rules)
    (λ c. search size_few)
    (λ c. search rules)
    (λ c. search rules)
    (λ c. search rules)
    (λ c κs. search rules)
    (λ c. search size_small)
    (λ c. search size_past)
    (λ c. search size-found))
