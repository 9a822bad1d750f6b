-- The queue's list operations by the place that a search finds.
use Prim.Native.Nat.{ℕ, suc, ◌<◌, ◌≤◌}
use native.Mathlib.Omega.{arith}
use mathlib.Core.Path.{◌≡◌, refl, ap}
use mathlib.Core.Bool.{Bool, true, false}
use mathlib.Core.List.{List, [], ◌∷◌, ◌++◌}
use lib.ListN.{length, take, drop}
use Rattle.std.specs.Prelude.{if◌then◌else◌}
use Rattle.ids.specs.Order.{before}
use Rattle.ids.specs.Requests.{same}
use Rattle.ids.specs.declared.Request.{Request}
use Rattle.rows.specs.Queue.{insert, without}
use Rattle.rows.specs.Queues.{first}

module _ (n m : ℕ) where
  step-within : (b : Bool) → n ≤ m → (if b then 0 else suc n) ≤ suc m
  step-within true h = omega arith
  step-within false h = omega arith

pub first-within : (f : Request → Bool) (l : List Request) → first f l ≤ length l
unfolding first
first-within f [] = omega arith
first-within f (x ∷ l) = step-within (first f l) (length l) (f x) (first-within f l)

-- insertion: r goes before the first that it precedes
insert-head : (b : Bool) (r x : Request) (l m : List Request) (n : ℕ) → m ≡ take n l ++ r ∷ drop n l
    → (if b then r ∷ (x ∷ l) else x ∷ m) ≡ take (if b then 0 else suc n) (x ∷ l) ++ r ∷ drop (if b then 0 else suc n) (x ∷ l)
insert-head true r x l m n e = refl
insert-head false r x l m n e = ap (λ (t : List Request). x ∷ t) e

pub insert-first : (r : Request) (l : List Request) → insert r l ≡ take (first (before r) l) l ++ r ∷ drop (first (before r) l) l
unfolding insert first
insert-first r [] = refl
insert-first r (x ∷ l) = insert-head (before r x) r x l (insert r l) (first (before r) l) (insert-first r l)

length-head : (b : Bool) (r x : Request) (l m : List Request) → length m ≡ suc (length l) → length (if b then r ∷ (x ∷ l) else x ∷ m) ≡ suc (suc (length l))
length-head true r x l m e = refl
length-head false r x l m e = ap suc e

pub length-insert : (r : Request) (l : List Request) → length (insert r l) ≡ suc (length l)
unfolding insert
length-insert r [] = refl
length-insert r (x ∷ l) = length-head (before r x) r x l (insert r l) (length-insert r l)

shorter_head : (b : Bool) (x : Request) (l m : List Request) → length m ≤ length l → length (if b then l else x ∷ m) ≤ suc (length l)
shorter_head true x l m e = omega arith
shorter_head false x l m e = omega arith

pub length_without : (r : Request) (l : List Request) → length (without r l) ≤ length l
unfolding without
length_without r [] = omega arith
length_without r (x ∷ l) = shorter_head (same x r) x l (without r l) (length_without r l)

-- removal: the first that is r goes, if there is one
abbrev is : Request → Request → Bool
is r x = same x r

without-head : (b : Bool) (x : Request) (l m : List Request) (n : ℕ) → (n < length l → m ≡ take n l ++ drop (suc n) l)
    → (if b then 0 else suc n) < suc (length l)
    → (if b then l else x ∷ m) ≡ take (if b then 0 else suc n) (x ∷ l) ++ drop (suc (if b then 0 else suc n)) (x ∷ l)
without-head true x l m n e h = refl
without-head false x l m n e h = ap (λ (t : List Request). x ∷ t) (e (omega arith))

pub without-first : (r : Request) (l : List Request) → first (is r) l < length l → without r l ≡ take (first (is r) l) l ++ drop (suc (first (is r) l)) l
unfolding without first
without-first r [] h = absurd (omega arith)
without-first r (x ∷ l) h = without-head (same x r) x l (without r l) (first (is r) l) (without-first r l) h

absent_head : (b : Bool) (x : Request) (l m : List Request) (n : ℕ) → (length l ≤ n → m ≡ l) → suc (length l) ≤ (if b then 0 else suc n)
    → (if b then l else x ∷ m) ≡ x ∷ l
absent_head true x l m n e h = absurd (omega arith)
absent_head false x l m n e h = ap (λ (t : List Request). x ∷ t) (e (omega arith))

pub without-none : (r : Request) (l : List Request) → length l ≤ first (is r) l → without r l ≡ l
unfolding without first
without-none r [] h = refl
without-none r (x ∷ l) h = absent_head (same x r) x l (without r l) (first (is r) l) (without-none r l) h
