-- `script_lines::name_at` meets its contract: each event's word stands at its place, up to the next space or the end.
use native.Mathlib.Omega.{arith}
use mathlib.Core.Path.{refl}
use Rattle.script_lines.specs.Words.{word}
use borrow.Author.Rules.{rules}
use Rattle.script_lines.proofs.name_at.Statement.{statement}
use Rattle.script_lines.proofs.name_at.Tie as tie

pub name_at_spec : {M : Type 1} → statement M
unfolding word
name_at_spec =
    tie.close
    (tie.spec
    (λ c. search rules)
    (λ c. search rules)
    (λ c. search rules)
    (λ c. search rules)
    (λ c. search rules)
    (λ c. search rules)
    (λ c. search rules)
    (λ c. search rules)
    (λ c. search rules)
    (λ c. rw c.in-Try.is (omega arith, refl))
    (λ c. rw c.in-Exit.is (omega arith, refl))
    (λ c. rw c.in-Fall.is (omega arith, refl))
    (λ c. rw c.in-Down.is (omega arith, refl))
    (λ c. rw c.in-Up.is (omega arith, refl))
    (λ c. rw c.in-Take.is (omega arith, refl))
    (λ c. rw c.in-Drop.is (omega arith, refl))
    (λ c. rw c.in-Miss.is (omega arith, refl))
    (λ c. rw c.in-Check.is (omega arith, refl)))
