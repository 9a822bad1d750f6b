-- Words and rows: which rows a list of words has, and what a change of some words does to them. A list whose first 7 * i words are those of another
-- has the same first i rows, so a change is told by the words before it, the words it leaves and the words behind.
use Prim.Native.Nat.{ℕ, zero, suc, ◌+◌, ◌*◌, ◌≤◌}
use native.Mathlib.Omega.{arith}
use mathlib.Core.Path.{◌≡◌, refl, sym, ap, ◌∙◌}
use mathlib.Core.List.{List, [], ◌∷◌, ◌++◌}
use lib.ListN.{length, take, drop, length-drop, take-append-drop}
use lib.Seq.{take-append-le, drop-append-le, drop-drop, length-take-le}
use Rattle.sim_transit.specs.Slots.{rows, slot_size}

pub length-rows : (k : ℕ) (t : List ℕ) → length (rows k t) ≡ k
unfolding rows
length-rows zero t = refl
length-rows (suc k) t = ap suc (length-rows k (drop slot_size t))

pub rows_split : (i k : ℕ) (t : List ℕ) → rows (i + k) t ≡ rows i t ++ rows k (drop (slot_size * i) t)
unfolding rows
rows_split zero k t = let z : 0 + k ≡ k = omega arith in rw z
rows_split (suc i) k t =
    let z : suc i + k ≡ suc (i + k) = omega arith in
    let y : slot_size * suc i ≡ slot_size + slot_size * i = omega arith in
    rw (z, y, rows_split i k (drop slot_size t), drop-drop (slot_size * i) slot_size t)

pub rows-one : (t : List ℕ) → rows 1 t ≡ take slot_size t ∷ []
unfolding rows
rows-one t = refl

-- the rows of the first words are not changed by what stands behind them
pub rows-front : (k : ℕ) (a b : List ℕ) → slot_size * k ≤ length a → rows k (a ++ b) ≡ rows k a
unfolding rows
rows-front zero a b h = refl
rows-front (suc k) a b h =
    let s : slot_size ≤ length a = omega arith in
    let d : slot_size * k ≤ length (drop slot_size a) = simp length-drop (omega arith) in
    rw (take-append-le slot_size a b s, drop-append-le slot_size a b s, rows-front k (drop slot_size a) b d)

pub rows_take : (k : ℕ) (t : List ℕ) → slot_size * k ≤ length t → rows k (take (slot_size * k) t) ≡ rows k t
rows_take k t h =
    let a : rows k (take (slot_size * k) t ++ drop (slot_size * k) t) ≡ rows k (take (slot_size * k) t) = rows-front k (take (slot_size * k) t)
    (drop (slot_size * k) t) (omega (arith, length-take-le (slot_size * k) t h)) in
    sym (rw take-append-drop at a)

pub rows_same : (k : ℕ) (s t : List ℕ) → slot_size * k ≤ length s → slot_size * k ≤ length t → take (slot_size * k) s ≡ take (slot_size * k) t → rows k s ≡ rows k t
rows_same k s t h g e = sym (rows_take k s h) ∙ (ap (rows k) e ∙ rows_take k t g)

-- one row more
pub rows_next : (i : ℕ) (t : List ℕ) → rows (suc i) t ≡ rows i t ++ (take slot_size (drop (slot_size * i) t) ∷ [])
rows_next i t = let z : suc i ≡ i + 1 = omega arith in rw (z, rows_split i 1 t, rows-one (drop (slot_size * i) t))

-- the rows around row i
pub rows_around : (i k : ℕ) (t : List ℕ) → rows (i + suc k) t ≡ rows i t ++ (take slot_size (drop (slot_size * i) t) ∷ rows k (drop (slot_size * suc i) t))
unfolding rows
rows_around i k t =
    let z : slot_size * suc i ≡ slot_size * i + slot_size = omega arith in
    rw (rows_split i (suc k) t, drop-drop slot_size (slot_size * i) t, z)
