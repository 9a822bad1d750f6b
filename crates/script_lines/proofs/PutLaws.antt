-- Printing into a buffer: what is stored behind what was stored is one longer run of stores.
use Prim.Native.Nat.{ℕ, ◌+◌, ◌≤◌, ◌<◌}
use native.Mathlib.Omega.{arith}
use native.Mathlib.Numerals.{add-one}
use mathlib.Core.Path.{◌≡◌, refl, ap, ◌∙◌}
use mathlib.Core.List.{List}
use lib.ListN.{length, take, get_or, set}
use lib.Seq.{sets, length-sets, take-suc, take_all, length-take-le}
use Rattle.script_numbers.proofs.PutLaws.{put-behind}

-- the bytes before place i of w are in o, from place `at` on
pub record Copied (o l : List ℕ) (at : ℕ) (w : List ℕ) (i : ℕ) : Type 0 where
  pub within : i ≤ length w
  pub lengths : length l ≡ length o
  pub copied : l ≡ sets o at (take i w)

pub copied_none : (o : List ℕ) (at : ℕ) (w : List ℕ) → Copied o o at w 0
copied_none o at w = record { within = omega arith; lengths = refl; copied = refl }

pub copied_more : (o l : List ℕ) (at : ℕ) (w : List ℕ) (i : ℕ) → Copied o l at w i → i < length w → Copied o (set l (at + i) (get_or w i 0)) at w (i + 1)
copied_more o l at w i inv h =
    let t : at + i ≡ at + length (take i w) = rw (length-take-le i w (omega arith)) in
    let s : set l (at + i) (get_or w i 0) ≡ sets o at (take (i + 1) w) =
    rw (add-one, take-suc w i 0 h) (put-behind o l at (at + i) (get_or w i 0) (take i w) (t, inv.copied)).1 in
    record { within = omega arith; lengths = ap length s ∙ length-sets o at (take (i + 1) w); copied = s }

pub copied_all : (o l : List ℕ) (at : ℕ) (w : List ℕ) (i : ℕ) → Copied o l at w i → length w ≤ i → (at + i ≡ at + length w) × (l ≡ sets o at w)
copied_all o l at w i inv h =
    let z : i ≡ length w = omega (arith, inv.within) in
    (ap (λ n. at + n) z, inv.copied ∙ ap (sets o at) (take_all i w h))
