-- A store in one block changes what that block is, and no other.
use mathlib.Core.Path.{◌≡◌, refl, ap, ◌∙◌}
use Prim.Native.Nat.{ℕ, zero, suc, ◌+◌, ◌*◌, ◌≤◌, ◌<◌}
use native.Mathlib.Omega.{arith}
use mathlib.Core.List.{List, ◌∷◌}
use lib.ListN.{length, get_or, take, drop, set}
use lib.Seq.{sets, drop-drop}
use Rattle.sim_blocks.specs.Regions.{blocks}
use Rattle.sim_blocks.proofs.RegionLaws.{take_sets_in, take_sets_after, drop_sets_before, drop_sets_at}

module _ {A : Type 0} (size : ℕ) (f : List ℕ → A) where
  pub block-stored : (count i : ℕ) (l : List ℕ) (a : ℕ) (vs : List ℕ) → i < count → a + length vs ≤ size →
      blocks size f count (sets l (i * size + a) vs) ≡ set (blocks size f count l) i (f (sets (take size (drop (i * size) l)) a vs))
  unfolding blocks
  block-stored zero i l a vs lt h = absurd (omega arith)
  block-stored (suc count) zero l a vs lt h =
      let z : 0 * size + a ≡ a = omega arith in
      let y : 0 * size ≡ 0 = omega arith in
      rw (z, y) (ap (λ (x : List ℕ). f x ∷ blocks size f count (drop size (sets l a vs))) (take_sets_in size l a vs h) ∙
      ap (λ (x : List ℕ). f (sets (take size l) a vs) ∷ blocks size f count x) (drop_sets_before size l a vs h))
  block-stored (suc count) (suc i) l a vs lt h =
      let z : suc i * size + a ≡ size + (i * size + a) = omega arith in
      let y : suc i * size ≡ size + i * size = omega arith in
      ap (λ (x : ℕ). blocks size f (suc count) (sets l x vs)) z ∙
      (ap (λ (x : List ℕ). f x ∷ blocks size f count (drop size (sets l (size + (i * size + a)) vs)))
      (take_sets_after size l (size + (i * size + a)) vs (omega arith)) ∙
      (ap (λ (x : List ℕ). f (take size l) ∷ blocks size f count x) (drop_sets_at size l (i * size + a) vs) ∙
      (ap (λ (x : List A). f (take size l) ∷ x) (block-stored count i (drop size l) a vs (omega arith) h) ∙
      (ap (λ (x : List ℕ). f (take size l) ∷ set (blocks size f count (drop size l)) i (f (sets (take size x) a vs))) (drop-drop (i * size) size l) ∙
      ap (λ (x : ℕ). f (take size l) ∷ set (blocks size f count (drop size l)) i (f (sets (take size (drop x l)) a vs)))
      (let w : size + i * size ≡ suc i * size = omega arith in w)))))

  pub block_at : (count i : ℕ) (l : List ℕ) (d : A) → i < count → get_or (blocks size f count l) i d ≡ f (take size (drop (i * size) l))
  unfolding blocks
  block_at zero i l d lt = absurd (omega arith)
  block_at (suc count) zero l d lt = let z : 0 * size ≡ 0 = omega arith in rw z
  block_at (suc count) (suc i) l d lt =
      block_at count i (drop size l) d (omega arith) ∙ ap (λ (x : List ℕ). f (take size x)) (drop-drop (i * size) size l) ∙
      (let w : size + i * size ≡ suc i * size = omega arith in ap (λ (x : ℕ). f (take size (drop x l))) w)

  pub length-blocks : (count : ℕ) (l : List ℕ) → length (blocks size f count l) ≡ count
  unfolding blocks
  length-blocks zero l = refl
  length-blocks (suc count) l = ap suc (length-blocks count (drop size l))
