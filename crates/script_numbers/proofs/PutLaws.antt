-- Printing a number into a buffer: what is stored behind what was stored is one longer run of stores.
use Prim.Native.Nat.{ℕ, ◌+◌, ◌/◌, ◌%◌, ◌≤◌, ◌<◌}
use native.Mathlib.Omega.{arith}
use mathlib.Core.Path.{◌≡◌, refl}
use mathlib.Core.List.{List, [], ◌∷◌, ◌++◌}
use lib.ListN.{length, set}
use lib.Seq.{sets}
use Rattle.wire.proofs.BytesLaws.{stored_on}
use Rattle.script_numbers.specs.Decimals.{decimal}
use Rattle.script_numbers.proofs.DecimalLaws.{decimal-one, decimal-more, more_digits}

-- one byte behind xs
pub put-behind : (o l : List ℕ) (at p b : ℕ) (xs : List ℕ) → (p ≡ at + length xs) × (l ≡ sets o at xs)
    → (p + 1 ≡ at + length xs + 1) × (set l p b ≡ sets o at (xs ++ (b ∷ [])))
put-behind o l at p b xs e = (omega (arith, e.0), stored_on o l (set l p b) xs (b ∷ []) at p e.1 refl e.0)

-- a number of one digit, and a number's last digit behind the others
module _ (x : ℕ) (o : List ℕ) (at : ℕ) where
  pub put_single : x < 10 → (b : ℕ) → b ≡ 48 + x → (at + 1 ≡ at + length (decimal x)) × (set o at b ≡ sets o at (decimal x))
  put_single h b d = rw (decimal-one x h, d) (refl, refl)

  pub put_last : 10 ≤ x → (l : List ℕ) (p b : ℕ) → (p ≡ at + length (decimal (x / 10))) × (l ≡ sets o at (decimal (x / 10)))
      → b ≡ 48 + x % 10 → (p + 1 ≡ at + length (decimal x)) × (set l p b ≡ sets o at (decimal x))
  put_last h l p b e d =
      let r = put-behind o l at p b (decimal (x / 10)) e in
      let z : decimal x ≡ decimal (x / 10) ++ (b ∷ []) = rw d (decimal-more x h) in
      (omega (arith, e.0, more_digits x h), rw z r.1)
