-- A function that puts several texts, one call after another, has put all of them: each call's promise goes behind the last by `then`.
use Prim.Native.Nat.{ℕ, ◌+◌, ◌-◌, ◌≤◌, ◌<◌}
use native.Mathlib.Omega.{arith}
use mathlib.Core.Path.{◌≡◌, refl, sym, ap, ◌∙◌}
use mathlib.Core.List.{List, [], ◌∷◌, ◌++◌}
use mathlib.Core.Logic.{inl, inr}
use lib.Dec.{leb}
use lib.ListN.{length, take, drop}
use lib.Seq.{sets, length-sets, sets-eq, take_at}
use borrow.Author.Tests.{le-leb, lt-leb, leb-true}
use Rattle.ids.proofs.Choice.{decided, Test}
use Rattle.text_sheet.specs.Sheet.{Sheet, sheet, put, puts}

pub puts-append : (a b : List (List ℕ)) (s : Sheet) → puts (a ++ b) s ≡ puts b (puts a s)
unfolding puts
puts-append [] b s = refl
puts-append (t ∷ a) b s = puts-append a b (put t s)

-- b was put behind a
pub then : (s₀ : Sheet) (a b : List (List ℕ)) {s₁ s₂ : Sheet} → s₁ ≡ puts a s₀ → s₂ ≡ puts b s₁ → s₂ ≡ puts (a ++ b) s₀
then s₀ a b p q = q ∙ (ap (puts b) p ∙ sym (puts-append a b s₀))

module _ (o t : List ℕ) (at : ℕ) where
  pub put_not : length o < at + length t → sheet o at ≡ puts (t ∷ []) (sheet o at)
  unfolding put puts
  put_not h = rw (lt-leb (at + length t) (length o) h)

  pub put_whole : (l : List ℕ) (r : ℕ) → at + length t ≤ length o → (r ≡ at + length t) × (l ≡ sets o at t) → sheet l r ≡ puts (t ∷ []) (sheet o at)
  unfolding put puts
  put_whole l r h e = rw (e.0, e.1, le-leb (at + length t) (length o) h)

-- the place stays within the bytes
pub put-within : (t : List ℕ) (s : Sheet) → s.at ≤ length s.bytes → (put t s).at ≤ length (put t s).bytes
unfolding put
put-within t s h = by_room_lem (decided (leb (s.at + length t) (length s.bytes)))
  where
    by_room_lem : Test (leb (s.at + length t) (length s.bytes)) → (put t s).at ≤ length (put t s).bytes
    by_room_lem (inl e) = rw e (omega (arith, leb-true (s.at + length t) (length s.bytes) e, length-sets s.bytes s.at t))
    by_room_lem (inr e) = rw e h

pub puts-within : (ts : List (List ℕ)) (s : Sheet) → s.at ≤ length s.bytes → (puts ts s).at ≤ length (puts ts s).bytes
unfolding puts
puts-within [] s h = h
puts-within (t ∷ ts) s h = puts-within ts (put t s) (put-within t s h)

-- what was put on an empty sheet ends within it
pub placed : (ts : List (List ℕ)) (o l : List ℕ) (r : ℕ) → sheet l r ≡ puts ts (sheet o 0) → r ≤ length l
placed ts o l r e = let w = puts-within ts (sheet o 0) (omega arith) in rw (← e) at w

-- the front of a buffer that a text was stored in is that text
module _ (o l t : List ℕ) (n : ℕ) (short : length t ≤ length o) (e : (n ≡ 0 + length t) × (l ≡ sets o 0 t)) where
  front : take (n - 0) (drop 0 l) ≡ t
  front =
      let z : n - 0 ≡ length t = omega (arith, e.0) in
      rw (z, e.1, sets-eq t o 0 (omega arith)) (take_at t (drop (0 + length t) o) (length t) refl)

  pub put_front : (s₀ s : Sheet) → s ≡ puts (take (n - 0) (drop 0 l) ∷ []) s₀ → s ≡ puts (t ∷ []) s₀
  put_front s₀ s q = q ∙ ap (λ (u : List ℕ). puts (u ∷ []) s₀) front
