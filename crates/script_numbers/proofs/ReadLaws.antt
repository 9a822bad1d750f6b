-- Reading a number up to a limit, digit by digit.
use Rattle.std.specs.Prelude.{Some, None, Option}
use Prim.Native.Nat.{ℕ, suc, ◌+◌, ◌-◌, ◌*◌, ◌≤◌, ◌<◌}
use native.Mathlib.Omega.{arith}
use native.Mathlib.Numerals.{add-one}
use mathlib.Core.Path.{◌≡◌, refl, ◌∙◌, ap, sym}
use mathlib.Core.Bool.{true, false}
use mathlib.Core.Logic.{⊎_elim}
use mathlib.Core.List.{List, [], ◌∷◌}
use lib.Dec.{eqb}
use lib.ListN.{length, drop, get_or, drop_of_length-le}
use lib.Seq.{drop-cons}
use borrow.Author.Tests.{le-leb, lt-leb, lt-ltb, eq-eqb, ne_eqb}
use Rattle.ids.proofs.Choice.{decided}
use Rattle.script_numbers.specs.Decimals.{digit_up_to, digits_up_to, number_up_to, number}
use Rattle.script_numbers.specs.Answers.{reading_says, number_says}

-- one digit
module _ (limit x b : ℕ) where
  pub digit_low : b < 48 → None ≡ digit_up_to limit x b
  unfolding digit_up_to
  digit_low h = rw (lt-leb 48 b h)

  pub digit_high : 48 ≤ b → 57 < b → None ≡ digit_up_to limit x b
  unfolding digit_up_to
  digit_high l h = simp (le-leb 48 b l, lt-leb b 57 h)

  pub digit_large : 48 ≤ b → b ≤ 57 → limit < 10 * x + (b - 48) → None ≡ digit_up_to limit x b
  unfolding digit_up_to
  digit_large l h g = simp (le-leb 48 b l, le-leb b 57 h, lt-leb (10 * x + (b - 48)) limit g)

  pub digit_fits : 48 ≤ b → b ≤ 57 → 10 * x + (b - 48) ≤ limit → Some (10 * x + (b - 48)) ≡ digit_up_to limit x b
  unfolding digit_up_to
  digit_fits l h g = simp (le-leb 48 b l, le-leb b 57 h, le-leb (10 * x + (b - 48)) limit g)

-- where x is read from the bytes before place i, one digit more
module _ (limit : ℕ) (s : List ℕ) (x i : ℕ) (inv : digits_up_to limit 0 s ≡ digits_up_to limit x (drop i s)) where
  module _ (h : i < length s) (r : Option ℕ) (told : r ≡ digit_up_to limit x (get_or s i 0)) where
    pub reads_more : (y : ℕ) → r ≡ Some y → digits_up_to limit 0 s ≡ digits_up_to limit y (drop (i + 1) s)
    unfolding digits_up_to
    reads_more y e =
        let d : digit_up_to limit x (get_or s i 0) ≡ Some y = sym told ∙ e in
        rw add-one (inv ∙ rw (drop-cons s i 0 h, d))

    pub reads_stop : r ≡ None → None ≡ digits_up_to limit 0 s
    unfolding digits_up_to
    reads_stop e =
        let d : digit_up_to limit x (get_or s i 0) ≡ None = sym told ∙ e in
        rw (inv, drop-cons s i 0 h, d)

  pub reads_all : length s ≤ i → Some x ≡ digits_up_to limit 0 s
  unfolding digits_up_to
  reads_all h = rw (inv, drop_of_length-le s {i = i} h)

-- a whole number
pub number-empty : (limit : ℕ) (s : List ℕ) → length s ≡ 0 → None ≡ number_up_to limit s
unfolding number_up_to
number-empty limit [] h = refl
number-empty limit (b ∷ l) h = absurd (omega arith)

more_than_one : (l : List ℕ) → (suc (length l) ≡ 1 → ⊥) → 0 < length l
more_than_one [] h = absurd (h refl)
more_than_one (b ∷ l) h = omega arith

pub number_led : (limit : ℕ) (s : List ℕ) → (length s ≡ 0 → ⊥) → (length s ≡ 1 → ⊥) → get_or s 0 0 ≡ 48
    → None ≡ number_up_to limit s
unfolding number_up_to
number_led limit [] n h e = absurd (n refl)
number_led limit (b ∷ l) n h e = let more : 0 < length l = more_than_one l h in simp (eq-eqb b 48 e, lt-ltb 0 (length l) more)

pub number_single : (limit : ℕ) (s : List ℕ) (r : Option ℕ) → length s ≡ 1 → r ≡ digits_up_to limit 0 s → r ≡ number_up_to limit s
unfolding number_up_to
number_single limit [] r h e = absurd (omega arith)
number_single limit (b ∷ []) r h e = ⊎_elim (λ (t : eqb b 48 ≡ true). rw t e) (λ (t : eqb b 48 ≡ false). rw t e) (decided (eqb b 48))
number_single limit (b ∷ c ∷ l) r h e = absurd (omega arith)

pub number_digits : (limit : ℕ) (s : List ℕ) → (length s ≡ 0 → ⊥) → (get_or s 0 0 ≡ 48 → ⊥) → number_up_to limit s ≡ digits_up_to limit 0 s
unfolding number_up_to
number_digits limit [] n h = absurd (n refl)
number_digits limit (b ∷ l) n h = simp (ne_eqb b 48 h)

pub number-several : (limit : ℕ) (s : List ℕ) (r : Option ℕ) → (length s ≡ 0 → ⊥) → (get_or s 0 0 ≡ 48 → ⊥) → r ≡ digits_up_to limit 0 s
    → r ≡ number_up_to limit s
number-several limit s r n h e = rw (number_digits limit s n h) e

-- the same in document 01's numbers
reading_row : (o : Option ℕ) → reading_says (o) ≡ number_says o
reading_row None = refl
reading_row (Some x) = refl

pub number-said : (s : List ℕ) (r : Option ℕ) → r ≡ number s → (r ≡ number s) × (reading_says r ≡ number_says (number s))
number-said s r e = (e, ap reading_says e ∙ reading_row (number s))
