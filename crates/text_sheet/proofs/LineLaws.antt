-- The end of a line.
use Prim.Native.Nat.{ℕ, suc, ◌+◌, ◌≤◌, ◌<◌}
use native.Mathlib.Omega.{arith}
use native.Mathlib.Numerals.{add-one}
use mathlib.Core.Path.{◌≡◌, sym, ◌∙◌}
use mathlib.Core.List.{List, [], ◌∷◌}
use mathlib.Core.Logic.{inl, inr}
use lib.Dec.{eqb, leb}
use lib.ListN.{length, drop, get_or, length-drop}
use lib.Seq.{drop-cons, drop-length}
use borrow.Author.Tests.{eq-eqb, ne_eqb, le-leb, lt-leb, leb-true, leb-false}
use Rattle.ids.proofs.Choice.{decided, Test}
use Rattle.script_lines.specs.Words.{newline}
use Rattle.text_sheet.specs.Lines.{line, line_end}

line-short : (l : List ℕ) → length (line l) ≤ length l
unfolding line
line-short [] = omega arith
line-short (b ∷ l) = by_byte (decided (eqb b newline)) (line-short l)
  where
    by_byte : Test (eqb b newline) → length (line l) ≤ length l → length (line (b ∷ l)) ≤ length (b ∷ l)
    by_byte (inl e) h = rw e (omega arith)
    by_byte (inr e) h = rw e (omega arith)

module _ (s : List ℕ) (i : ℕ) where
  in_range_lem : i ≤ length s → line_end s i ≡ i + length (line (drop i s))
  unfolding line_end
  in_range_lem h = rw (le-leb i (length s) h)

  pub end_behind : i ≤ length s → i ≤ line_end s i
  end_behind h = omega (arith, in_range_lem h)

  pub end_within : line_end s i ≤ length s
  unfolding line_end
  end_within = by_place (decided (leb i (length s)))
    where
      by_place : Test (leb i (length s)) → line_end s i ≤ length s
      by_place (inl e) = rw e (omega (arith, leb-true i (length s) e, line-short (drop i s), length-drop i s))
      by_place (inr e) = rw e (omega arith)

  end_past : length s < i → line_end s i ≡ length s
  unfolding line_end
  end_past h = rw (lt-leb i (length s) h)

  end_last : length s ≡ i → line_end s i ≡ length s
  unfolding line
  end_last e =
      let d : drop i s ≡ [] = rw (sym e) (drop-length s) in
      let z : length (line (drop i s)) ≡ 0 = rw d in
      omega (arith, in_range_lem (omega arith), z)

  module _ (h : i < length s) where
    step : (get_or s i 0 ≡ newline → ⊥) → line_end s i ≡ line_end s (suc i)
    unfolding line_end line
    step n =
        let e : length (line (drop i s)) ≡ suc (length (line (drop (suc i) s))) = simp (drop-cons s i 0 h, ne_eqb _ _ n) in
        rw (le-leb i (length s) (omega arith), le-leb (suc i) (length s) (omega arith)) (omega arith)

    stop : get_or s i 0 ≡ newline → line_end s i ≡ i
    unfolding line
    stop e =
        let z : length (line (drop i s)) ≡ 0 = simp (drop-cons s i 0 h, eq-eqb _ _ e) in
        omega (arith, in_range_lem (omega arith))

-- where no newline stands from place `from` to place i, one byte more
module _ (s : List ℕ) (from i : ℕ) (inv : line_end s from ≡ line_end s i) where
  pub seeks_more : i < length s → (get_or s i 0 ≡ newline → ⊥) → line_end s from ≡ line_end s (i + 1)
  seeks_more h n = rw add-one (inv ∙ step s i h n)

  pub seeks_stop : i < length s → get_or s i 0 ≡ newline → i ≡ line_end s from
  seeks_stop h e = sym (inv ∙ stop s i h e)

  pub seeks_all : length s ≤ i → length s ≡ line_end s from
  seeks_all h = sym (inv ∙ by_place (decided (leb (suc (length s)) i)))
    where
      by_place : Test (leb (suc (length s)) i) → line_end s i ≡ length s
      by_place (inl e) = end_past s i (omega (arith, leb-true (suc (length s)) i e))
      by_place (inr e) = end_last s i (omega (arith, h, leb-false (suc (length s)) i e))
