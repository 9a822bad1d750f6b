-- `sim_transit::search` meets its contract. The invariant: below slot `low` the numbers are lower, from slot `high` on they are not. The
-- measure is what is left between them.
use Prim.Native.Nat.{◌-◌}
use native.Mathlib.Omega.{arith}
use Rattle.sim_transit.proofs.FindLaws.{Searching, searching_none, searching_up, searching_down, searching_all}
use borrow.Author.Rules.{rules}
use Rattle.sim_transit.proofs.search.Statement.{statement}
use Rattle.sim_transit.proofs.search.Tie as tie

abbrev invariant-loop : tie.invariant-loop-low
invariant-loop t len number low₀ high₀ low high = Searching number len t low high

abbrev decreases-loop : tie.decreases-loop-low
decreases-loop t len number low₀ high₀ low high = high - low

loop-again : tie.Need-loop-low-preserved-then-t-middle invariant-loop decreases-loop
loop-again c = searching_up _ _ _ _ _ c.loop-low.invariant _ (omega arith) (omega arith) c.if-t-middle.true

loop-again-2 : tie.Need-loop-low-preserved invariant-loop decreases-loop
loop-again-2 c = searching_down _ _ _ _ _ c.loop-low.invariant _ (omega arith) (omega arith) c.if-t-middle.false

pub search_spec : {M : Type 1} → statement M
search_spec =
    tie.close
    (tie.spec
    invariant-loop
    decreases-loop
    (λ c. searching_none _ _ _ c.requires)
    (λ c. search rules)
    (λ c. search rules)
    (λ c. search rules)
    (λ c. search rules)
    (λ c. search rules)
    (λ c. search rules)
    (λ c. omega arith)
    loop-again
    (λ c. omega arith)
    loop-again-2
    (λ c. searching_all _ _ _ _ _ c.loop-low.invariant (omega arith)))
