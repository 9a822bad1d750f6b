-- Numbers in decimal: a number of ten or more is the number without its last digit, and that digit behind it.
use Prim.Native.Nat.{ℕ, zero, suc, ◌+◌, ◌*◌, ◌/◌, ◌%◌, ◌^◌, ◌≤◌, ◌<◌}
use native.Mathlib.Nat.{pow-suc}
use native.Mathlib.Omega.{arith}
use mathlib.Core.Path.{◌≡◌}
use mathlib.Core.Bool.{true, false}
use mathlib.Core.Logic.{⊎_elim}
use mathlib.Core.List.{List, [], ◌∷◌, ◌++◌}
use lib.Dec.{ltb}
use lib.ListN.{length, length-append}
use borrow.Author.Tests.{lt-ltb, le-ltb, ltb-true, ltb-false}
use Rattle.ids.proofs.Choice.{decided}
use Rattle.script_numbers.specs.Decimals.{largest32, digits32, last_digits, decimal}

pub decimal-one : (x : ℕ) → x < 10 → decimal x ≡ (48 + x) ∷ []
unfolding decimal last_digits
decimal-one x h = rw (lt-ltb x 10 h)

abbrev pub last_of : ℕ → ℕ → List ℕ
last_of w x = last_digits w (ltb x 10) x

-- x + 1 digits are enough for x, and so are more
enough : (w v x : ℕ) → x ≤ w → x ≤ v → last_of (suc w) x ≡ last_of (suc v) x
unfolding last_digits
enough zero v x h k = let l : x < 10 = omega arith in rw (lt-ltb x 10 l)
enough (suc w) zero x h k = let l : x < 10 = omega arith in rw (lt-ltb x 10 l)
enough (suc w) (suc v) x h k =
    ⊎_elim
    (λ (t : ltb x 10 ≡ true). rw t)
    (λ (t : ltb x 10 ≡ false).
    let ten : 10 ≤ x = ltb-false x 10 t in
    let a : x / 10 ≤ w = omega arith in
    let b : x / 10 ≤ v = omega arith in
    rw (t, enough w v (x / 10) a b))
    (decided (ltb x 10))

pub decimal-more : (x : ℕ) → 10 ≤ x → decimal x ≡ decimal (x / 10) ++ ((48 + x % 10) ∷ [])
unfolding decimal last_digits
decimal-more zero h = absurd (omega arith)
decimal-more (suc y) h =
    let a : suc y / 10 ≤ y = omega arith in
    let b : suc y / 10 ≤ suc y / 10 = omega arith in
    rw (le-ltb (suc y) 10 h, enough y (suc y / 10) (suc y / 10) a b)

pub one_digit : (x : ℕ) → x < 10 → length (decimal x) ≡ 1
one_digit x h = rw (decimal-one x h)

pub more_digits : (x : ℕ) → 10 ≤ x → length (decimal x) ≡ length (decimal (x / 10)) + 1
more_digits x h = rw (decimal-more x h) (length-append (decimal (x / 10)) ((48 + x % 10) ∷ []))

-- a number below 10 ^ w has at most w digits, from w = 1 on
pub decimal-below : (w x : ℕ) → x < 10 ^ suc w → length (decimal x) ≤ suc w
decimal-below zero x h = omega (arith, one_digit x (omega (arith, pow-suc 10 0)))
decimal-below (suc w) x h =
    let p : 10 ^ suc (suc w) ≡ 10 ^ suc w * 10 = pow-suc 10 (suc w) in
    ⊎_elim
    (λ (t : ltb x 10 ≡ true). omega (arith, one_digit x (ltb-true x 10 t)))
    (λ (t : ltb x 10 ≡ false). omega (arith, more_digits x (ltb-false x 10 t), decimal-below w (x / 10) (omega arith)))
    (decided (ltb x 10))

pub decimal-short : (x : ℕ) → x ≤ largest32 → length (decimal x) ≤ digits32
decimal-short x h = decimal-below 9 x (omega arith)
