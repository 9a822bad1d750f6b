-- `packet::reach` meets its contract. The invariant: what is at the place asked for can be found from the place reached.
use Prim.Native.Nat.{ℕ, ◌-◌, ◌<◌}
use native.Mathlib.Omega.{arith}
use mathlib.Core.List.{List}
use lib.ListN.{length}
use Rattle.packet.specs.Inner.{Reached}
use Rattle.packet.proofs.ContentsLaws.{PartAt, reached-first, here, reached-more}
use borrow.Author.Rules.{rules}
use Rattle.packet.proofs.reach.Statement.{statement}
use Rattle.packet.proofs.reach.Tie as tie

abbrev invariant-loop : tie.invariant-loop-place
invariant-loop bytes at place₀ place = Reached bytes at place

abbrev decreases-loop : tie.decreases-loop-place
decreases-loop bytes at place₀ place = at - place

-- the part at the place reached
module _ (c : tie.After-size_at-place invariant-loop decreases-loop) where
  abbrev s : List ℕ
  s = c.args.bytes.now

  abbrev place : ℕ
  place = c.loop-place.place

  inside : place < length s
  inside = omega (arith, c.loop-place-test.true, c.requires.0)

  part : PartAt s place c.size_at-place.result
  part = here s c.args.at place c.size_at-place.result c.loop-place.invariant inside c.size_at-place.ensures

pub reach_spec : {M : Type 1} → statement M
reach_spec =
    tie.close
    (tie.spec
    invariant-loop
    decreases-loop
    (λ c. search reached-first)
    (λ c κs. search rules)
    (λ c. omega (arith, (part c).within))
    (λ c. omega (arith, (part c).least))
    (λ c.
    reached-more _ _ _ _ c.loop-place.invariant (inside c) c.size_at-place.ensures (λ e. omega arith))
    (λ c. search rules))
