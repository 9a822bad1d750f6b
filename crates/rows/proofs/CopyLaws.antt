-- Words copied: the invariant of the loop says what stands before place i. A part of a row that is lent and comes back, and a row's places cleared.
use Prim.Native.Nat.{ℕ, ◌+◌, ◌*◌, ◌-◌, ◌<◌, ◌≤◌}
use native.Mathlib.Numerals.{add-one}
use native.Mathlib.Omega.{arith}
use mathlib.Core.Path.{◌≡◌, sym, ◌∙◌}
use mathlib.Core.List.{List, ◌++◌, append_assoc}
use lib.ListN.{length, get_or, set, take, drop, replicate, replicate-append-replicate}
use lib.Seq.{sets, sets-eq, drop-drop, take-suc, take-suc-set, take_all, length-take-le}
use Rattle.rows.specs.Rows.{Padded}
use Rattle.rows.proofs.RowLaws.{row-behind}

-- a part is written over whole
pub part-whole : (b ys vs : List ℕ) (a k : ℕ) → a + k ≤ length b → length vs ≡ k → ys ≡ vs → take a b ++ (ys ++ drop k (drop a b)) ≡ sets b a vs
part-whole b ys vs a k h e p = rw (p, drop-drop k a b, ← e) (sym (append_assoc (take a b) vs (drop (a + length vs) b)) ∙ sym (sets-eq vs b a (omega arith)))

-- the words before i are copied
module _ (from to : List ℕ) (i : ℕ) (done : take i to ≡ take i from) where
  pub copying_more : i < length from → i < length to → take (i + 1) (set to i (get_or from i 0)) ≡ take (i + 1) from
  copying_more h g = rw (add-one, take-suc-set to i (get_or from i 0) g, take-suc from i 0 h, done)

  pub copying_all : length from ≤ i → length to ≤ i → to ≡ from
  copying_all h g = sym (take_all i to g) ∙ done ∙ take_all i from h

-- a queue's places 0, and behind them nothing else
module _ (row : List ℕ) (len : ℕ) (good : Padded row len) where
  pub places-there : 2 * len ≤ length row
  places-there = omega (arith, good.within, good.places.even)

  pub front_zero : (zs : List ℕ) → zs ≡ replicate (length (take (2 * len) row)) 0 → zs ++ drop (2 * len) row ≡ replicate (length row) 0
  front_zero zs e =
      let n : 2 * len + (length row - 2 * len) ≡ length row = omega (arith, places-there) in
      rw (e, length-take-le (2 * len) row places-there, row-behind row len good, replicate-append-replicate, n)
