-- A packet's total: what the first two bytes say, where they count themselves and no more bytes than there are.
use Prim.Native.Nat.{ℕ, ◌+◌, ◌*◌, ◌<◌, ◌≤◌}
use native.Mathlib.Omega.{arith}
use mathlib.Core.Path.{◌≡◌, sym, ◌∙◌}
use mathlib.Core.Bool.{true, false}
use mathlib.Core.List.{List}
use mathlib.Core.Logic.{⊎_elim}
use lib.ListN.{length, get_or}
use borrow.Author.Tests.{leb-true, le-leb}
use Rattle.ids.proofs.Choice.{both, decided, clash}
use Rattle.wire.proofs.BytesLaws.{number-two}
use Rattle.packet.specs.Packet.{total_bytes, total_in, framed}
use Rattle.packet.specs.Inner.{total_of}

pub record Framed (s : List ℕ) : Type 0 where
  pub two : total_bytes ≤ length s
  pub least : total_bytes ≤ total_in s
  pub within : total_in s ≤ length s

module _ (s : List ℕ) where
  pub is_framed : framed s ≡ true → Framed s
  unfolding framed
  is_framed h =
      let (ab, c) = both _ _ h in
      let (a, b) = both _ _ ab in
      record { two = leb-true _ _ a; least = leb-true _ _ b; within = leb-true _ _ c }

  pub to_framed : Framed s → framed s ≡ true
  unfolding framed
  to_framed f = rw (le-leb _ _ f.two, le-leb _ _ f.least, le-leb _ _ f.within)

  pub total-framed : framed s ≡ true → total_of s ≡ total_in s
  unfolding total_of
  total-framed h = rw h

  total-none : (Framed s → ⊥) → total_of s ≡ 0
  unfolding total_of
  total-none n = ⊎_elim (λ (h : framed s ≡ true). absurd (n (is_framed h))) (λ (h : framed s ≡ false). rw h) (decided (framed s))

  -- what `total_of` returns
  pub total-few : length s < total_bytes → 0 ≡ total_of s
  total-few h = sym (total-none (λ f. omega (arith, f.two)))

  module _ (total : ℕ) (two : total_bytes ≤ length s) (read : total ≡ get_or s 0 0 + 256 * get_or s 1 0) where
    its-total : total ≡ total_in s
    unfolding total_in
    its-total = number-two s 0 total two read

    pub total-small : total < total_bytes → 0 ≡ total_of s
    total-small h = sym (total-none (λ f. omega (arith, f.least, its-total)))

    pub total_past : length s < total → 0 ≡ total_of s
    total_past h = sym (total-none (λ f. omega (arith, f.within, its-total)))

    pub total-found : total_bytes ≤ total → total ≤ length s → total ≡ total_of s
    total-found a b =
        its-total ∙ sym (total-framed (to_framed (record { two = two; least = omega (arith, its-total); within = omega (arith, its-total) })))

  -- what it says of the packet
  pub total_zero : 0 ≡ total_of s → framed s ≡ false
  total_zero e =
      ⊎_elim (λ (h : framed s ≡ true). absurd (omega (arith, total-framed h, (is_framed h).least))) (λ (h : framed s ≡ false). h) (decided (framed s))

  pub total_some : (total : ℕ) → total ≡ total_of s → (total ≡ 0 → ⊥) → (framed s ≡ true) × (total_in s ≡ total)
  total_some total e n =
      ⊎_elim (λ (h : framed s ≡ true). (h, sym (e ∙ total-framed h)))
      (λ (h : framed s ≡ false). absurd (n (e ∙ total-none (λ f. clash (framed s) (to_framed f) h))))
      (decided (framed s))
