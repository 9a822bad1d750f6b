-- Living holders counted by their places are those counted block by block.
use mathlib.Core.Path.{◌≡◌, refl, ap, ◌∙◌}
use Prim.Native.Nat.{ℕ, zero, suc, ◌+◌, ◌*◌, ◌-◌}
use native.Mathlib.Omega.{arith}
use mathlib.Core.Bool.{cond}
use mathlib.Core.List.{List, map}
use lib.ListN.{take, drop}
use lib.Seq.{drop-drop}
use Rattle.std.specs.Prelude.{if◌then◌else◌}
use Rattle.std.specs.List.{count_by, range_with_len}
use Rattle.std.proofs.lemmas.List.Sums.{sum_by-cons}
use Rattle.client_responses.specs.Figure1.{count}
use Rattle.sim_blocks.specs.Regions.{blocks}
use Rattle.system.specs.Places.{ClientPlace, is_inside}

-- from place i on
pub inside-counted : (s : ℕ) (f : List ℕ → ClientPlace) (l : List ℕ) (i c : ℕ)
    → count_by (λ (i : ℕ). is_inside (f (take s (drop ((i + 1 - 1) * s) l)))) (range_with_len i c) ≡ count (map is_inside (blocks s f c (drop (i * s) l)))
unfolding blocks
inside-counted s f l i zero = refl
inside-counted s f l i (suc c) =
    let z : i + 1 - 1 ≡ i = omega arith in
    let x : i * s + s ≡ (i + 1) * s = omega arith in
    rw (
      sum_by-cons (λ (i : ℕ). cond (is_inside (f (take s (drop ((i + 1 - 1) * s) l)))) 1 0) i (range_with_len (i + 1) c),
      inside-counted s f l (i + 1) c,
      z,
      drop-drop s (i * s) l,
      x,
    )

-- one block more adds one if its client is inside
module _ (s : ℕ) (f : List ℕ → ClientPlace) where
  abbrev inside_in : ℕ → List ℕ → ℕ
  inside_in i l = count (map is_inside (blocks s f i l))

  pub count-more : (i : ℕ) (l : List ℕ) → inside_in (suc i) l ≡ inside_in i l + (if is_inside (f (take s (drop (i * s) l))) then 1 else 0)
  unfolding blocks
  count-more zero l = let z : 0 * s ≡ 0 = omega arith in rw z (omega arith)
  count-more (suc i) l =
      let y : s + i * s ≡ suc i * s = omega arith in
      let at : drop (i * s) (drop s l) ≡ drop (suc i * s) l = drop-drop (i * s) s l ∙ ap (λ (x : ℕ). drop x l) y in
      rw (← at) (omega (arith, count-more i (drop s l)))
