-- Settings, printed and read: as for events, number by number. A printed number has no space, so the first space behind it ends it.
use Rattle.std.specs.Prelude.{Some, None, Option}
use Prim.Native.Nat.{ℕ, ◌≤◌}
use native.Mathlib.Omega.{arith}
use mathlib.Core.Path.{◌≡◌, refl, ◌∙◌}
use mathlib.Core.Bool.{Bool, true, false, ◌&&◌}
use mathlib.Core.Logic.{⊎_elim}
use mathlib.Core.List.{List, [], ◌∷◌, ◌++◌}
use lib.Dec.{eqb}
use lib.ListN.{length}
use borrow.Author.Tests.{le-leb, ne_eqb}
use Rattle.ids.specs.Choice.{maybe}
use Rattle.ids.proofs.Choice.{decided, both}
use Rattle.script_numbers.specs.Decimals.{largest32, digit_up_to, digits_up_to, number, decimal}
use Rattle.script_lines.specs.Words.{text, space, same, word, rest, spaced}
use Rattle.script_lines.specs.Lines.{short, next, four_in, setting_in, max_line}
use Rattle.script_lines.specs.Printed.{four_words, setting_line}
use Rattle.system.specs.declared.Setting.{Setting}
use Rattle.script_lines.proofs.PrintedLaws.{Small}
use Rattle.script_lines.proofs.FirstLaws.{fourth, third, second}
use Rattle.script_numbers.proofs.NumberTrip.{digit_low, number_read, not_empty, decimal-read, number-printed, through}
use Rattle.script_lines.proofs.EventTrip.{same-is, rest_joins}

-- a printed setting is read ---------------------------------------------------------------------------------------------------

record Cut (w r : List ℕ) : Type 0 where
  before : word (w ++ (space ∷ r)) ≡ w
  behind : rest (w ++ (space ∷ r)) ≡ Some r

cut_digits : (w r : List ℕ) (y x : ℕ) → digits_up_to largest32 y w ≡ Some x → Cut w r
unfolding digits_up_to word rest
cut_digits [] r y x e = record { before = refl; behind = refl }
cut_digits (b ∷ w) r y x e =
    let t = through (digit_up_to largest32 y b) (λ z. digits_up_to largest32 z w) x e in
    let low : 48 ≤ b = digit_low largest32 y b t.value t.is in
    let c = cut_digits w r t.value x t.gives in
    let n : eqb b space ≡ false = ne_eqb b space (λ (s : b ≡ 32). omega arith) in
    record { before = simp (n, c.before); behind = simp (n, c.behind) }

cut-number : (w r : List ℕ) (x : ℕ) → number w ≡ Some x → Cut w r
cut-number [] r x e = absurd (not_empty largest32 x e)
cut-number (b ∷ w) r x e = cut_digits (b ∷ w) r 0 x (number_read largest32 b w x e).1

next-read : {A : Type 0} (x : ℕ) (r : List ℕ) (f : ℕ → List ℕ → Option A) → x ≤ largest32
    → next (decimal x ++ (space ∷ r)) f ≡ f x r
next-read x r f h =
    let e : number (decimal x) ≡ Some x = decimal-read x h in
    let c = cut-number (decimal x) r x e in
    simp (c.before, c.behind, e)

module _ (s : Setting) (small : Small s) where
  four_read : four_in (spaced (four_words s)) ≡ Some s
  unfolding four_in spaced
  four_read =
      let r₃ : List ℕ = decimal s.clients in
      let r₂ : List ℕ = decimal s.f ++ (space ∷ r₃) in
      let r₁ : List ℕ = decimal s.m ++ (space ∷ r₂) in
      next-read s.n r₁ second small.n ∙
      (next-read s.m r₂ (third s.n) small.m ∙
      (next-read s.f r₃ (fourth s.n s.m) small.f ∙ rw (decimal-read s.clients small.clients)))

  pub setting-read : length (setting_line s) ≤ max_line → setting_in (setting_line s) ≡ Some s
  unfolding setting_in setting_line spaced word rest same
  setting-read h = simp (le-leb (length (setting_line s)) max_line h) four_read

-- a setting that is read is printed as it stood -------------------------------------------------------------------------------

-- the number x before the first space of l, and what stands behind it
record Began {A : Type 0} (l : List ℕ) (f : ℕ → List ℕ → Option A) (s : A) : Type 0 where
  number_is : ℕ
  tail : List ℕ
  joins : decimal number_is ++ (space ∷ tail) ≡ l
  gives : f number_is tail ≡ Some s

began : {A : Type 0} (l : List ℕ) (f : ℕ → List ℕ → Option A) (s : A) → next l f ≡ Some s → Began l f s
began l f s e =
    let t = through (number (word l)) (λ x. maybe (rest l) None (λ r. f x r)) s e in
    let u = through (rest l) (λ r. f t.value r) s t.gives in
    let d : decimal t.value ≡ word l = number-printed (word l) t.value t.is in
    record { number_is = t.value; tail = u.value; joins = rw d (rest_joins l u.value u.is); gives = u.gives }

four_printed : (l : List ℕ) (s : Setting) → four_in l ≡ Some s → spaced (four_words s) ≡ l
unfolding four_in spaced
four_printed l s e =
    let a = began l second s e in
    let b = began a.tail (third a.number_is) s a.gives in
    let c = began b.tail (fourth a.number_is b.number_is) s b.gives in
    let d = through (number c.tail) (λ k. Some (record { n = a.number_is; m = b.number_is; f = c.number_is; clients = k })) s c.gives in
    let p : decimal d.value ≡ c.tail = number-printed c.tail d.value d.is in
    let q : ◌≡◌ {A = Setting} (record { n = a.number_is; m = b.number_is; f = c.number_is; clients = d.value }) s = cc d.gives in
    rw (← q, p, c.joins, b.joins, a.joins)

pub setting-printed : (l : List ℕ) (s : Setting) → setting_in l ≡ Some s → setting_line s ≡ l
unfolding setting_in setting_line spaced
setting-printed l s h =
    let test : Bool = short l && same (word l) (text "setting") in
    ⊎_elim
    (λ (t : test ≡ true).
    let f : maybe (rest l) None four_in ≡ Some s = rw t at h in
    let u = through (rest l) four_in s f in
    let w : word l ≡ text "setting" = same-is (word l) (text "setting") (both (short l) (same (word l) (text "setting")) t).1 in
    let j : text "setting" ++ (space ∷ u.value) ≡ l = rw w at (rest_joins l u.value u.is) in
    rw (four_printed u.value s u.gives) j)
    (λ (t : test ≡ false). let f : None ≡ Some s = rw t at h in let z : ◌≡◌ {A = ℕ} 0 1 = cc in absurd (omega arith))
    (decided test)
