-- `words::put_five` meets its contract: five stores, one word each.
use native.Mathlib.Omega.{arith}
use lib.ListN.{length-set}
use borrow.Author.Rules.{rules}
use Rattle.words.proofs.put_five.Statement.{statement}
use Rattle.words.proofs.put_five.Tie as tie

pub put_five_spec : {M : Type 1} → statement M
put_five_spec =
    tie.close
    (tie.spec
    (λ c. search rules)
    (λ c. simp length-set (omega arith))
    (λ c. simp length-set (omega arith))
    (λ c. simp length-set (omega arith))
    (λ c. simp length-set (omega arith))
    (λ c. search rules)
    (λ c. search rules))
