-- `packet::walks` meets its contract. The invariant: from the place reached the walk ends with the bytes exactly if it does from the first one.
use Prim.Native.Nat.{◌-◌}
use native.Mathlib.Omega.{arith}
use lib.ListN.{length}
use Rattle.packet.proofs.WalkLaws.{Walking, walking_start, past, walking_more, walking_done}
use borrow.Author.Rules.{rules}
use Rattle.packet.proofs.walks.Statement.{statement}
use Rattle.packet.proofs.walks.Tie as tie

abbrev invariant-loop : tie.invariant-loop-size
invariant-loop bytes from at₀ size₀ at size = Walking bytes from at size

abbrev decreases-loop : tie.decreases-loop-size
decreases-loop bytes from at₀ size₀ at size = length bytes - at

pub walks_spec : {M : Type 1} → statement M
walks_spec =
    tie.close
    (tie.spec
    invariant-loop
    decreases-loop
    (λ c κs. search rules)
    (λ c. search walking_start)
    (λ c. omega (arith, (past _ _ _ _ c.loop-size.invariant c.loop-size-test.true).1))
    (λ c κs. (past _ _ _ _ c.loop-size.invariant c.loop-size-test.true).1)
    (λ c. let p = past _ _ _ _ c.loop-size.invariant c.loop-size-test.true in omega arith)
    (λ c. search walking_more)
    (λ c. search walking_done))
