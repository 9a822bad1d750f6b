-- `wire::size_of` meets its contract: the length of the message's kind.
use Rattle.wire.specs.Format.{size_of}
use borrow.Author.Rules.{rules}
use Rattle.wire.proofs.size_of.Statement.{statement}
use Rattle.wire.proofs.size_of.Tie as tie

pub size_of_spec : {M : Type 1} → statement M
unfolding size_of
size_of_spec =
    tie.close
    (tie.spec
    (λ c κs. search rules)
    (λ c κs. search rules)
    (λ c. search rules)
    (λ c. rw c.fields_of-f.ensures at c.length_of.ensures))
