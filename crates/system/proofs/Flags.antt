-- A set of servers as flags, one for each server from 1, and as the ascending numbers of those flagged.
use mathlib.Core.Path.{◌≡◌, refl, ap, ◌∙◌}
use mathlib.Core.Logic.{◌⊎◌, inl, inr}
use Prim.Native.Nat.{ℕ, zero, suc, ◌+◌, ◌≤◌, ◌<◌}
use native.Mathlib.Omega.{arith}
use mathlib.Core.Bool.{Bool, true, false, not, false≢true}
use mathlib.Core.List.{List, [], ◌∷◌, map}
use lib.ListN.{length, get_or}
use lib.Dec.{ltb}
use borrow.Author.Tests.{eq-eqb, ne_eqb, lt-ltb, le-ltb, ltb-false, ltb-true}
use Rattle.std.specs.Prelude.{if◌then◌else◌}
use Rattle.ids.proofs.Choice.{decided, Test, clash}
use Rattle.client_responses.specs.Figure1.{count}
use Rattle.system.specs.Numbered.{member, added}
use Rattle.system.specs.Places.{ServerPlace, down_from}
use Rattle.system.specs.Downs.{is_down, either}
use Rattle.system.proofs.Quorums.{Spare, spare}

-- the numbers of the flags that are set, counted from a
abbrev pub numbers : ℕ → List Bool → List ℕ
numbers a [] = []
numbers a (b ∷ l) = if b then a ∷ numbers (suc a) l else numbers (suc a) l

-- the flags with that at i set
abbrev pub mark : ℕ → List Bool → List Bool
mark zero [] = true ∷ []
mark zero (b ∷ l) = true ∷ l
mark (suc i) [] = false ∷ mark i []
mark (suc i) (b ∷ l) = b ∷ mark i l

-- the list is of that form: ascending, from 1
pub record Marked (d : List ℕ) : Type 0 where
  pub flags : List Bool
  pub same : d ≡ numbers 1 flags

pub length-numbers : (a : ℕ) (l : List Bool) → length (numbers a l) ≡ count l
length-numbers a [] = refl
length-numbers a (true ∷ l) = omega (arith, length-numbers (suc a) l)
length-numbers a (false ∷ l) = omega (arith, length-numbers (suc a) l)

below_out : (a i : ℕ) (l : List Bool) → i < a → member i (numbers a l) ≡ false
below_out a i [] h = refl
below_out a i (true ∷ l) h = rw (ne_eqb i a (λ e. omega arith)) (below_out (suc a) i l (omega arith))
below_out a i (false ∷ l) h = below_out (suc a) i l (omega arith)

member-from : (a : ℕ) (l : List Bool) (i x : ℕ) → x ≡ a + i → member x (numbers a l) ≡ get_or l i false
member-from a [] i x e = refl
member-from a (true ∷ l) zero x e = rw (eq-eqb x a (omega arith))
member-from a (false ∷ l) zero x e = below_out (suc a) x l (omega arith)
member-from a (true ∷ l) (suc i) x e = rw (ne_eqb x a (λ q. omega arith)) (member-from (suc a) l i x (omega arith))
member-from a (false ∷ l) (suc i) x e = member-from (suc a) l i x (omega arith)

pub member-numbers : (l : List Bool) (i : ℕ) → member (suc i) (numbers 1 l) ≡ get_or l i false
member-numbers l i = member-from 1 l i (suc i) (omega arith)

added-below : (a x : ℕ) (l : List Bool) → x < a → added x (numbers a l) ≡ x ∷ numbers a l
unfolding added
added-below a x [] h = refl
added-below a x (true ∷ l) h = rw (ne_eqb x a (λ e. omega arith), lt-ltb x a h)
added-below a x (false ∷ l) h = added-below (suc a) x l (omega arith)

added-from : (a : ℕ) (l : List Bool) (i x : ℕ) → x ≡ a + i → added x (numbers a l) ≡ numbers a (mark i l)
unfolding added
added-from a [] zero x e = ap (λ (y : ℕ). y ∷ []) (omega arith)
added-from a [] (suc i) x e = added-from (suc a) [] i x (omega arith)
added-from a (true ∷ l) zero x e = rw (eq-eqb x a (omega arith))
added-from a (false ∷ l) zero x e = let q : x ≡ a = omega arith in rw q (added-below (suc a) a l (omega arith))
added-from a (true ∷ l) (suc i) x e =
    rw (ne_eqb x a (λ q. omega arith), le-ltb x a (omega arith)) (ap (λ (m : List ℕ). a ∷ m) (added-from (suc a) l i x (omega arith)))
added-from a (false ∷ l) (suc i) x e = added-from (suc a) l i x (omega arith)

pub added-marked : (d : List ℕ) (i : ℕ) → Marked d → Marked (added (suc i) d)
added-marked d i m = record { flags = mark i m.flags; same = ap (added (suc i)) m.same ∙ added-from 1 m.flags i (suc i) (omega arith) }

-- the servers down now
pub down-numbers : (a : ℕ) (l : List ServerPlace) → down_from a l ≡ numbers a (map is_down l)
unfolding down_from
down-numbers a [] = refl
down-numbers a (q ∷ l) = go q.up (down-numbers (suc a) l)
  where
    go : (b : Bool) {x y : List ℕ} → x ≡ y → (if b then x else a ∷ x) ≡ (if not b then a ∷ y else y)
    go true e = e
    go false e = ap (λ (m : List ℕ). a ∷ m) e

-- no list of numbers that has all those flagged is shorter than their count
pub fits : (c : List Bool) (d : List ℕ) → ((i : ℕ) → get_or c i false ≡ true → member (suc i) d ≡ true) → count c ≤ length d
fits c d h = go (decided (ltb (length d) (count c)))
  where
    go : Test (ltb (length d) (count c)) → count c ≤ length d
    go (inl e) =
        let s : Spare c d = spare d c (ltb-true (length d) (count c) e) in
        clash (member (suc s.place) d) (h s.place s.chosen) s.missing
    go (inr e) = ltb-false (length d) (count c) e

pub either_cases : (a b : List Bool) (i : ℕ) → get_or (either a b) i false ≡ true → (get_or a i false ≡ true) ⊎ (get_or b i false ≡ true)
either_cases [] b i h = inr h
either_cases (x ∷ a) [] i h = inl h
either_cases (true ∷ a) (y ∷ b) zero h = inl refl
either_cases (false ∷ a) (y ∷ b) zero h = inr h
either_cases (x ∷ a) (y ∷ b) (suc i) h = either_cases a b i h

pub either_left : (a b : List Bool) (i : ℕ) → get_or a i false ≡ true → get_or (either a b) i false ≡ true
either_left [] b i h = absurd (false≢true h)
either_left (x ∷ a) [] i h = h
either_left (true ∷ a) (y ∷ b) zero h = refl
either_left (false ∷ a) (y ∷ b) zero h = absurd (false≢true h)
either_left (x ∷ a) (y ∷ b) (suc i) h = either_left a b i h

pub either_right : (a b : List Bool) (i : ℕ) → get_or b i false ≡ true → get_or (either a b) i false ≡ true
either_right [] b i h = h
either_right (x ∷ a) [] i h = absurd (false≢true h)
either_right (true ∷ a) (y ∷ b) zero h = refl
either_right (false ∷ a) (y ∷ b) zero h = h
either_right (x ∷ a) (y ∷ b) (suc i) h = either_right a b i h
