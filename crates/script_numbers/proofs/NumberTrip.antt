-- Numbers, printed and read, up to any limit: what is printed is read as the same number, and what is read is printed as the same bytes.
-- A number is read from its first digit on and printed from its last, so both directions go by the digit behind a number.
use Rattle.std.specs.Prelude.{Some, None, Option}
use Prim.Native.Nat.{ℕ, zero, suc, ◌+◌, ◌-◌, ◌*◌, ◌/◌, ◌%◌, ◌≤◌, ◌<◌}
use native.Mathlib.Omega.{arith}
use mathlib.Core.Path.{◌≡◌, refl, sym, ◌∙◌}
use mathlib.Core.Bool.{Bool, true, false, ◌&&◌}
use mathlib.Core.Logic.{⊎_elim}
use mathlib.Core.List.{List, [], ◌∷◌, ◌++◌, append_assoc, append-nil}
use lib.Dec.{eqb, ltb, leb}
use lib.ListN.{length, get_or, length-append, get_or-append}
use borrow.Author.Tests.{le-leb, leb-true, lt-ltb, ltb-true, ltb-false, eqb-true, eqb-false}
use Rattle.ids.specs.Choice.{maybe}
use Rattle.ids.proofs.Choice.{decided, both, and_true, passed}
use Rattle.script_numbers.specs.Decimals.{largest32, is_digit, digit_up_to, digits_up_to, number_up_to, number, last_digits, decimal}
use Rattle.script_numbers.proofs.DecimalLaws.{last_of, decimal-one, decimal-more}
use Rattle.script_numbers.proofs.ReadLaws.{number_digits}

-- a printed number is read ----------------------------------------------------------------------------------------------------

some_digit : (w x : ℕ) → 0 < length (last_of (suc w) x)
unfolding last_digits
some_digit w x =
    ⊎_elim
    (λ (t : ltb x 10 ≡ true). rw t (omega arith))
    (λ (t : ltb x 10 ≡ false). rw t (omega (arith, length-append (last_of w (x / 10)) ((48 + x % 10) ∷ []))))
    (decided (ltb x 10))

-- the first digit is not 0
leads : (w x : ℕ) → x ≤ w → 0 < x → get_or (last_of (suc w) x) 0 0 ≡ 48 → ⊥
unfolding last_digits
leads zero x h p e = omega arith
leads (suc w) x h p e =
    ⊎_elim
    (λ (t : ltb x 10 ≡ true). let z : 48 + x ≡ 48 = rw t at e in omega arith)
    (λ (t : ltb x 10 ≡ false).
    let ten : 10 ≤ x = ltb-false x 10 t in
    let d : x / 10 ≤ w = omega arith in
    let g : get_or (last_of (suc w) (x / 10) ++ ((48 + x % 10) ∷ [])) 0 0 ≡ 48 = rw t at e in
    let f = get_or-append (last_of (suc w) (x / 10)) ((48 + x % 10) ∷ []) 0 0 (some_digit w (x / 10)) in
    leads w (x / 10) d (omega arith) (sym f ∙ g))
    (decided (ltb x 10))

module _ (limit : ℕ) where
  digits_behind : (x : ℕ) (l : List ℕ) (b : ℕ)
      → digits_up_to limit x (l ++ (b ∷ [])) ≡ maybe (digits_up_to limit x l) None (λ y. digit_up_to limit y b)
  unfolding digits_up_to
  digits_behind x [] b = last (digit_up_to limit x b)
    where
      last : (o : Option ℕ) → maybe o None (λ y. Some y) ≡ o
      last None = refl
      last (Some y) = refl
  digits_behind x (c ∷ l) b = first (digit_up_to limit x c) (λ y. digits_behind y l b)
    where
      first : (o : Option ℕ)
          → ((y : ℕ) → digits_up_to limit y (l ++ (b ∷ [])) ≡ maybe (digits_up_to limit y l) None (λ z. digit_up_to limit z b))
          → maybe o None (λ y. digits_up_to limit y (l ++ (b ∷ [])))
          ≡ maybe (maybe o None (λ y. digits_up_to limit y l)) None (λ z. digit_up_to limit z b)
      first None h = refl
      first (Some y) h = h y

  digit_is : (x d : ℕ) → d < 10 → 10 * x + d ≤ limit → digit_up_to limit x (48 + d) ≡ Some (10 * x + d)
  unfolding digit_up_to
  digit_is x d h l =
      let z : 48 + d - 48 ≡ d = omega arith in
      let a : 48 ≤ 48 + d = omega arith in
      let b : 48 + d ≤ 57 = omega arith in
      simp (z, le-leb 48 (48 + d) a, le-leb (48 + d) 57 b, le-leb (10 * x + d) limit l)

  one-read : (x : ℕ) → x < 10 → x ≤ limit → digits_up_to limit 0 ((48 + x) ∷ []) ≡ Some x
  unfolding digits_up_to
  one-read x h l =
      let z : 10 * 0 + x ≡ x = omega arith in
      let m : 10 * 0 + x ≤ limit = omega arith in
      rw (digit_is 0 x h m, z)

  digits_last : (w x : ℕ) → x ≤ w → x ≤ limit → digits_up_to limit 0 (last_of (suc w) x) ≡ Some x
  unfolding last_digits
  digits_last zero x h l = let s : x < 10 = omega arith in rw (lt-ltb x 10 s) (one-read x s l)
  digits_last (suc w) x h l =
      let r : x % 10 < 10 = omega arith in
      let whole : 10 * (x / 10) + x % 10 ≡ x = omega arith in
      let m : 10 * (x / 10) + x % 10 ≤ limit = omega arith in
      ⊎_elim
      (λ (t : ltb x 10 ≡ true). rw t (one-read x (ltb-true x 10 t) l))
      (λ (t : ltb x 10 ≡ false).
      let ten : 10 ≤ x = ltb-false x 10 t in
      let ih : digits_up_to limit 0 (last_of (suc w) (x / 10)) ≡ Some (x / 10) = digits_last w (x / 10) (omega arith) (omega arith) in
      rw t (digits_behind 0 (last_of (suc w) (x / 10)) (48 + x % 10) ∙ rw (ih, digit_is (x / 10) (x % 10) r m, whole)))
      (decided (ltb x 10))

  zero_read : number_up_to limit (decimal 0) ≡ Some 0
  unfolding number_up_to
  zero_read = rw (decimal-one 0 (omega arith)) (one-read 0 (omega arith) (omega arith))

  pub decimal_read_up_to : (x : ℕ) → x ≤ limit → number_up_to limit (decimal x) ≡ Some x
  unfolding decimal
  decimal_read_up_to x l =
      ⊎_elim
      (λ (t : eqb x 0 ≡ true). let z : x ≡ 0 = eqb-true x 0 t in rw z zero_read)
      (λ (t : eqb x 0 ≡ false).
      let n : x ≡ 0 → ⊥ = eqb-false x 0 t in
      let p : 0 < x = omega arith in
      let b : x ≤ x = omega arith in
      number_digits limit (last_of (suc x) x) (λ e. omega (arith, some_digit x x)) (leads x x b p) ∙ digits_last x x b l)
      (decided (eqb x 0))

pub decimal-read : (x : ℕ) → x ≤ largest32 → number (decimal x) ≡ Some x
decimal-read = decimal_read_up_to largest32

-- a number that is read is printed as it stood --------------------------------------------------------------------------------

-- what `maybe` has gone through
pub record Through {A B : Type 0} (o : Option A) (f : A → Option B) (x : B) : Type 0 where
  pub value : A
  pub is : o ≡ Some value
  pub gives : f value ≡ Some x

pub through : {A B : Type 0} (o : Option A) (f : A → Option B) (x : B) → maybe o None f ≡ Some x → Through o f x
through None f x e = let z : ◌≡◌ {A = ℕ} 0 1 = cc in absurd (omega arith)
through (Some a) f x e = record { value = a; is = refl; gives = e }

-- the digit b was read behind x
record Read (limit x b y : ℕ) : Type 0 where
  low : 48 ≤ b
  high : b ≤ 57
  value : 10 * x + (b - 48) ≡ y
  small : y ≤ limit

first-printed : (limit b z : ℕ) → Read limit 0 b z → decimal z ≡ b ∷ []
first-printed limit b z r =
    let v : 10 * 0 + (b - 48) ≡ z = r.value in
    let lo : 48 ≤ b = r.low in
    let hi : b ≤ 57 = r.high in
    let small : z < 10 = omega arith in
    let same : 48 + z ≡ b = omega arith in
    rw same at (decimal-one z small)

module _ (limit : ℕ) where
  digit_read : (x b y : ℕ) → digit_up_to limit x b ≡ Some y → Read limit x b y
  unfolding digit_up_to
  digit_read x b y e =
      let test : Bool = is_digit b && leb (10 * x + (b - 48)) limit in
      ⊎_elim
      (λ (t : test ≡ true).
      let f : Some (10 * x + (b - 48)) ≡ Some y = rw t at e in
      let v : 10 * x + (b - 48) ≡ y = cc in
      let (d, m) = both (is_digit b) (leb (10 * x + (b - 48)) limit) t in
      let (lo, hi) = both (leb 48 b) (leb b 57) d in
      record {
        low = leb-true 48 b lo;
        high = leb-true b 57 hi;
        value = v;
        small = rw v at (leb-true (10 * x + (b - 48)) limit m);
      })
      (λ (t : test ≡ false).
      let f : None ≡ Some y = rw t at e in
      let z : ◌≡◌ {A = ℕ} 0 1 = cc in absurd (omega arith))
      (decided test)

  pub digit_low : (x b y : ℕ) → digit_up_to limit x b ≡ Some y → 48 ≤ b
  digit_low x b y e = (digit_read x b y e).low

  -- a number that was read has digits, and its first one is not a leading 0
  pub number_read : (b : ℕ) (l : List ℕ) (x : ℕ) → number_up_to limit (b ∷ l) ≡ Some x
      → (eqb b 48 && ltb 0 (length l) ≡ false) × (digits_up_to limit 0 (b ∷ l) ≡ Some x)
  unfolding number_up_to
  number_read b l x e = passed _ (λ (f : None ≡ Some x). let z : ◌≡◌ {A = ℕ} 0 1 = cc in omega arith) e

  pub not_empty : (x : ℕ) → number_up_to limit [] ≡ Some x → ⊥
  unfolding number_up_to
  not_empty x e = let z : ◌≡◌ {A = ℕ} 0 1 = cc in omega arith

  digits_printed : (l : List ℕ) (y x : ℕ) → 0 < y → digits_up_to limit y l ≡ Some x → decimal x ≡ decimal y ++ l
  unfolding digits_up_to
  digits_printed [] y x p e = let z : y ≡ x = cc in rw z (sym (append-nil (decimal x)))
  digits_printed (b ∷ l) y x p e =
      let t = through (digit_up_to limit y b) (λ z. digits_up_to limit z l) x e in
      let z : ℕ = t.value in
      let r : Read limit y b z = digit_read y b z t.is in
      let v : 10 * y + (b - 48) ≡ z = r.value in
      let lo : 48 ≤ b = r.low in
      let hi : b ≤ 57 = r.high in
      let ten : 10 ≤ z = omega arith in
      let front : z / 10 ≡ y = omega arith in
      let back : 48 + z % 10 ≡ b = omega arith in
      digits_printed l z x (omega arith) t.gives ∙ rw (decimal-more z ten, front, back, append_assoc)

  from_first : (b : ℕ) (l : List ℕ) (x z : ℕ) → eqb b 48 && ltb 0 (length l) ≡ false → Read limit 0 b z
      → digits_up_to limit z l ≡ Some x → decimal x ≡ b ∷ l
  unfolding digits_up_to
  from_first b [] x z n r e = let same : z ≡ x = cc in rw same at (first-printed limit b z r)
  from_first b (c ∷ l) x z n r e =
      let more : 0 < length (c ∷ l) = omega arith in
      let f : eqb b 48 ≡ false = sym (and_true (eqb b 48)) ∙ (rw (lt-ltb 0 (length (c ∷ l)) more) at n) in
      let nz : b ≡ 48 → ⊥ = eqb-false b 48 f in
      let v : 10 * 0 + (b - 48) ≡ z = r.value in
      let lo : 48 ≤ b = r.low in
      let p : 0 < z = omega arith in
      digits_printed (c ∷ l) z x p e ∙ rw (first-printed limit b z r)

  pub number_printed_up_to : (l : List ℕ) (x : ℕ) → number_up_to limit l ≡ Some x → decimal x ≡ l
  unfolding digits_up_to
  number_printed_up_to [] x e = absurd (not_empty x e)
  number_printed_up_to (b ∷ l) x e =
      let (n, d) = number_read b l x e in
      let t = through (digit_up_to limit 0 b) (λ z. digits_up_to limit z l) x d in
      from_first b l x t.value n (digit_read 0 b t.value t.is) t.gives

  digits_small : (l : List ℕ) (y x : ℕ) → y ≤ limit → digits_up_to limit y l ≡ Some x → x ≤ limit
  unfolding digits_up_to
  digits_small [] y x h e = let z : y ≡ x = cc in rw z at h
  digits_small (b ∷ l) y x h e =
      let t = through (digit_up_to limit y b) (λ z. digits_up_to limit z l) x e in
      digits_small l t.value x (digit_read y b t.value t.is).small t.gives

  pub number_small_up_to : (l : List ℕ) (x : ℕ) → number_up_to limit l ≡ Some x → x ≤ limit
  number_small_up_to [] x e = absurd (not_empty x e)
  number_small_up_to (b ∷ l) x e = digits_small (b ∷ l) 0 x (omega arith) (number_read b l x e).1

pub number-printed : (l : List ℕ) (x : ℕ) → number l ≡ Some x → decimal x ≡ l
number-printed = number_printed_up_to largest32

pub number_small : (l : List ℕ) (x : ℕ) → number l ≡ Some x → x ≤ largest32
number_small = number_small_up_to largest32
