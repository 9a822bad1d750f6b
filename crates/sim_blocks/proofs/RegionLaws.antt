-- A run of stores, looked at through a part of the list: it is inside the part, before it or behind it.
use mathlib.Core.Path.{◌≡◌, refl, ap, ◌∙◌}
use Prim.Native.Nat.{ℕ, suc, ◌+◌, ◌≤◌}
use native.Mathlib.Omega.{arith}
use mathlib.Core.List.{List, [], ◌∷◌}
use lib.ListN.{length, take, drop, set}
use lib.Seq.{sets, take-set-le, drop-set-lt, take-set-lt, drop-set-add}
use Rattle.sim_blocks.specs.Regions.{region}

pub take_sets_in : (s : ℕ) (l : List ℕ) (a : ℕ) (vs : List ℕ) → a + length vs ≤ s → take s (sets l a vs) ≡ sets (take s l) a vs
take_sets_in s l a [] h = refl
take_sets_in s l a (v ∷ vs) h =
    take_sets_in s (set l a v) (suc a) vs (omega arith) ∙ ap (λ (x : List ℕ). sets x (suc a) vs) (take-set-lt s l a v (omega arith))

pub take_sets_after : (s : ℕ) (l : List ℕ) (a : ℕ) (vs : List ℕ) → s ≤ a → take s (sets l a vs) ≡ take s l
take_sets_after s l a [] h = refl
take_sets_after s l a (v ∷ vs) h = take_sets_after s (set l a v) (suc a) vs (omega arith) ∙ take-set-le s l a v h

pub drop_sets_before : (s : ℕ) (l : List ℕ) (a : ℕ) (vs : List ℕ) → a + length vs ≤ s → drop s (sets l a vs) ≡ drop s l
drop_sets_before s l a [] h = refl
drop_sets_before s l a (v ∷ vs) h = drop_sets_before s (set l a v) (suc a) vs (omega arith) ∙ drop-set-lt s l a v (omega arith)

pub drop_sets_at : (s : ℕ) (l : List ℕ) (a : ℕ) (vs : List ℕ) → drop s (sets l (s + a) vs) ≡ sets (drop s l) a vs
drop_sets_at s l a [] = refl
drop_sets_at s l a (v ∷ vs) =
    let z : suc (s + a) ≡ s + suc a = omega arith in
    ap (λ (i : ℕ). drop s (sets (set l (s + a) v) i vs)) z ∙
    (drop_sets_at s (set l (s + a) v) (suc a) vs ∙ ap (λ (x : List ℕ). sets x (suc a) vs) (drop-set-add s l a v))

-- a region, after stores inside it, before it and behind it
module _ (from size : ℕ) (l : List ℕ) (a : ℕ) (vs : List ℕ) where
  pub region-inside : a + length vs ≤ size → region from size (sets l (from + a) vs) ≡ sets (region from size l) a vs
  region-inside h = ap (take size) (drop_sets_at from l a vs) ∙ take_sets_in size (drop from l) a vs h

  pub region-before : a + length vs ≤ from → region from size (sets l a vs) ≡ region from size l
  region-before h = ap (take size) (drop_sets_before from l a vs h)

  pub region-behind : region from size (sets l (from + size + a) vs) ≡ region from size l
  region-behind =
      let z : from + size + a ≡ from + (size + a) = omega arith in
      ap (λ (i : ℕ). region from size (sets l i vs)) z ∙
      (ap (take size) (drop_sets_at from l (size + a) vs) ∙ take_sets_after size (drop from l) (size + a) vs (omega arith))
