-- A signed number's word: where it is negative, −1 minus it is a number from 0, and the word is as far below 2 to the 32nd minus 1.
use mathlib.Core.Path.{◌≡◌, refl, sym, ap}
use Prim.Native.Nat.{ℕ, suc, ◌-◌, ◌≤◌, ◌<◌}
use native.Mathlib.Omega.{arith}
use mathlib.Core.Bool.{true, false, false≢true}
use lib.Dec.{T}
use lib.IntN.{ℤ, pos, negsuc, nat_abs, ◌-ℤ◌}
use lib.Signed.{lt_z, mag, non_neg}
use mir.Syntax.{w32}
use mir.Val.{SFits, Fits, to_z, of_z}
use mir.Facts.{to_z-of_z}
use borrow.Author.Tests.{le-ltb, ltb-true}
use Rattle.capi_quorum.specs.Calls.{signed_word}

-- −1 minus a negative number
flipped : (a : ℕ) → negsuc 0 -ℤ negsuc a ≡ pos a
flipped a = rw (le-ltb (suc a) 1 (omega arith)) (let z : suc a - 1 ≡ a = omega arith in ap pos z)

-- the test `x < 0` and what it says
negative : (x : ℤ) → SFits w32 x → lt_z (to_z w32 (of_z w32 x)) (pos 0) ≡ true → lt_z x (pos 0) ≡ true
negative x f t = rw (to_z-of_z f) at t

turned : (x : ℤ) → SFits w32 x → lt_z x (pos 0) ≡ true → negsuc 0 -ℤ to_z w32 (of_z w32 x) ≡ pos (mag x)
turned (pos a) f t = absurd (let h = ltb-true a 0 t in omega arith)
turned (negsuc a) f t = rw (to_z-of_z f) (flipped a)

bound : (x : ℤ) → SFits w32 x → mag x < 2147483648
bound x f = f.sfits

small : (a : ℕ) → a < 2147483648 → SFits w32 (pos a)
small a h = record { sfits = h }

module _ (x : ℤ) (f : SFits w32 x) (t : lt_z (to_z w32 (of_z w32 x)) (pos 0) ≡ true) where
  again : to_z w32 (of_z w32 (negsuc 0 -ℤ to_z w32 (of_z w32 x))) ≡ pos (mag x)
  again = rw (turned x f (negative x f t)) (to_z-of_z (small (mag x) (bound x f)))

  pub turned-fits : SFits w32 (negsuc 0 -ℤ to_z w32 (of_z w32 x))
  turned-fits = rw (turned x f (negative x f t)) (small (mag x) (bound x f))

  pub turned_casts : T (non_neg (to_z w32 (of_z w32 (negsuc 0 -ℤ to_z w32 (of_z w32 x))))) × Fits w32 (nat_abs (to_z w32 (of_z w32 (negsuc 0 -ℤ to_z w32 (of_z w32 x)))))
  turned_casts = rw again (tt, record { fits = omega (arith, bound x f) })

  pub turned_low : nat_abs (to_z w32 (of_z w32 (negsuc 0 -ℤ to_z w32 (of_z w32 x)))) ≤ 4294967295
  turned_low = rw again (omega (arith, bound x f))

  pub negative_word : 4294967295 - nat_abs (to_z w32 (of_z w32 (negsuc 0 -ℤ to_z w32 (of_z w32 x)))) ≡ signed_word x
  negative_word = rw again (go x (negative x f t))
    where
      go : (y : ℤ) → lt_z y (pos 0) ≡ true → 4294967295 - mag y ≡ signed_word y
      go (pos a) u = absurd (let h = ltb-true a 0 u in omega arith)
      go (negsuc a) u = refl

module _ (x : ℤ) (f : SFits w32 x) (t : lt_z (to_z w32 (of_z w32 x)) (pos 0) ≡ false) where
  positive : lt_z x (pos 0) ≡ false
  positive = rw (to_z-of_z f) at t

  pub positive_casts : T (non_neg (to_z w32 (of_z w32 x))) × Fits w32 (nat_abs (to_z w32 (of_z w32 x)))
  positive_casts = rw (to_z-of_z f) (go x f positive)
    where
      go : (y : ℤ) → SFits w32 y → lt_z y (pos 0) ≡ false → T (non_neg y) × Fits w32 (nat_abs y)
      go (pos a) g u = (tt, record { fits = omega (arith, bound (pos a) g) })
      go (negsuc a) g u = absurd (false≢true (sym u))

  pub positive-word : nat_abs (to_z w32 (of_z w32 x)) ≡ signed_word x
  positive-word = rw (to_z-of_z f) (go x positive)
    where
      go : (y : ℤ) → lt_z y (pos 0) ≡ false → nat_abs y ≡ signed_word y
      go (pos a) u = refl
      go (negsuc a) u = absurd (false≢true (sym u))
