-- Words in a line.
use Rattle.std.specs.Prelude.{Some, None}
use Prim.Native.Nat.{ℕ, suc, ◌+◌, ◌-◌, ◌≤◌, ◌<◌}
use native.Mathlib.Omega.{arith}
use native.Mathlib.Numerals.{add-one}
use mathlib.Core.Path.{◌≡◌, refl, ◌∙◌}
use mathlib.Core.Bool.{Bool, true, false}
use mathlib.Core.Logic.{⊎_elim}
use mathlib.Core.List.{List, [], ◌∷◌}
use lib.Dec.{eqb}
use lib.Pointwise.{pointwise}
use lib.ListN.{length, take, drop, get_or, length-drop}
use lib.Seq.{drop-cons, drop-length, drop-drop, take_all}
use borrow.Author.Tests.{eq-eqb, ne_eqb}
use Rattle.ids.proofs.Choice.{decided}
use Rattle.script_lines.specs.Words.{space, same, word, rest}

-- the library's test of two words is ours
pub equal_words : (a b : List ℕ) → pointwise eqb a b ≡ same a b
unfolding same
equal_words [] [] = refl
equal_words [] (c ∷ k) = refl
equal_words (b ∷ l) [] = refl
equal_words (b ∷ l) (c ∷ k) = rw (equal_words l k)

-- where no space stands from place `at` to place i, one byte more
module _ (s : List ℕ) (at i : ℕ) (inv : at + length (word (drop at s)) ≡ i + length (word (drop i s))) where
  module _ (h : i < length s) where
    pub passes_more : (get_or s i 0 ≡ space → ⊥) → at + length (word (drop at s)) ≡ i + 1 + length (word (drop (i + 1) s))
    unfolding word
    passes_more n =
        let e : length (word (drop i s)) ≡ suc (length (word (drop (suc i) s))) = simp (drop-cons s i 0 h, ne_eqb _ _ n) in
        rw (add-one i) (omega arith)

    pub passes_stop : get_or s i 0 ≡ space → (i ≡ at + length (word (drop at s))) × (i ≤ length s)
    unfolding word
    passes_stop e =
        let z : length (word (drop i s)) ≡ 0 = simp (drop-cons s i 0 h, eq-eqb _ _ e) in
        (omega arith, omega arith)

  pub passes_all : i ≡ length s → (length s ≡ at + length (word (drop at s))) × (length s ≤ length s)
  unfolding word
  passes_all e =
      let z : length (word (drop i s)) ≡ 0 = rw (e, drop-length s) in
      (omega arith, omega arith)

-- a call's answer, tested, decides what it equals
pub no : {r b : Bool} → r ≡ b → r ≡ false → b ≡ false
no p e = cc

pub yes : {r b : Bool} → r ≡ b → r ≡ true → b ≡ true
yes p e = cc

-- a line cut at its first space
pub word-taken : (l : List ℕ) → take (length (word l)) l ≡ word l
unfolding word
word-taken [] = refl
word-taken (b ∷ l) =
    ⊎_elim (λ (t : eqb b space ≡ true). rw t) (λ (t : eqb b space ≡ false). rw (t, word-taken l)) (decided (eqb b space))

pub rest-none : (l : List ℕ) → length (word l) ≡ length l → rest l ≡ None
unfolding word rest
rest-none [] e = refl
rest-none (b ∷ l) e =
    ⊎_elim
    (λ (t : eqb b space ≡ true). absurd (omega (arith, rw t at e)))
    (λ (t : eqb b space ≡ false). let f : suc (length (word l)) ≡ suc (length l) = rw t at e in let g : length (word l) ≡ length l = omega arith in rw
    t (rest-none l g))
    (decided (eqb b space))

pub rest_some : (l : List ℕ) → length (word l) < length l → rest l ≡ Some (drop (suc (length (word l))) l)
unfolding word rest
rest_some [] h = absurd (omega arith)
rest_some (b ∷ l) h =
    ⊎_elim
    (λ (t : eqb b space ≡ true). rw t)
    (λ (t : eqb b space ≡ false). let f : suc (length (word l)) < suc (length l) = rw t at h in let g : length (word l) < length l = omega arith in rw
    t (rest_some l g))
    (decided (eqb b space))

-- the same of the line from place `at` on, whose word ends at place p
module _ (s : List ℕ) (at p : ℕ) (e : p ≡ at + length (word (drop at s))) where
  pub cut_word : take (p - at) (drop at s) ≡ word (drop at s)
  cut_word = let z : p - at ≡ length (word (drop at s)) = omega arith in rw z (word-taken (drop at s))

  pub cut-none : p ≡ length s → rest (drop at s) ≡ None
  cut-none h = rest-none (drop at s) (omega (arith, length-drop at s))

  pub cut_some : p < length s → rest (drop at s) ≡ Some (drop (p + 1) s)
  cut_some h =
      let z : at + suc (length (word (drop at s))) ≡ p + 1 = omega (arith, add-one p) in
      rest_some (drop at s) (omega (arith, length-drop at s)) ∙ rw (drop-drop, z)

  pub cut_end : take (length s - (p + 1)) (drop (p + 1) s) ≡ drop (p + 1) s
  cut_end = take_all (length s - (p + 1)) (drop (p + 1) s) (omega (arith, length-drop (p + 1) s))

pub word_shorter : (l : List ℕ) → length (word l) ≤ length l
unfolding word
word_shorter [] = omega arith
word_shorter (b ∷ l) =
    let h = word_shorter l in
    ⊎_elim (λ (t : eqb b space ≡ true). rw t (omega arith)) (λ (t : eqb b space ≡ false). rw t (omega arith)) (decided (eqb b space))
