-- The library's words beside ours: the sum, the first place and the test of two lists. What a move of words by one leaves, and a word put in there;
-- and that a row with a word put in or taken out is the row with words moved by one place, as `rows` moves its places.
use Prim.Native.Nat.{ℕ, zero, suc, ◌+◌, ◌-◌, ◌<◌, ◌≤◌}
use native.Mathlib.Numerals.{add-one}
use native.Mathlib.Omega.{arith}
use mathlib.Core.Path.{◌≡◌, refl, sym, ap, subst, ◌∙◌}
use mathlib.Core.List.{List, [], ◌∷◌, ◌++◌, append_assoc}
use lib.ListN.{length, get_or, set, take, drop, length-append, length-drop, take-append-drop, drop_of_length-le}
use lib.Seq.{drop-cons, drop-drop, take-suc, length-take-le, split_at, get_or_at, set_at, length_paste_head, append_snoc}
use lib.Dec.{eqb}
use Rattle.std.specs.List.{sum as sum_of, position, position_or_len, list_all, range_with_len, copy_within}
use Rattle.std.specs.Cmp.Lexicographic.{pointwise}
use Rattle.std.proofs.lemmas.List.Recursion.{is_sum_by, is_position_or_len}
use Rattle.std.proofs.Common.{Option, unwrap_or, not}
use Rattle.std.proofs.lemmas.List.Sums.{prefix_len-le-length}
use Rattle.rows.proofs.ShiftLaws.{Shifted, shifted}
use Rattle.sim_index.specs.Calls.{sum, start_of, first_of, inserted, deleted, same}

-- `start`: the sum ------------------------------------------------------------------------------------------------------------------------

pub sum-append : (a b : List ℕ) → sum (a ++ b) ≡ sum a + sum b
unfolding sum
sum-append [] b = omega arith
sum-append (x ∷ a) b = omega (arith, sum-append a b)

pub start-next : (x : List ℕ) (i : ℕ) → i < length x → start_of (suc i) x ≡ start_of i x + get_or x i 0
unfolding sum
start-next x i h = rw (take-suc x i 0 h) (omega (arith, sum-append (take i x) (get_or x i 0 ∷ [])))

-- the library's sum is this one
pub sum-is : (l : List ℕ) → sum_of l ≡ sum l
unfolding sum
sum-is l = sym (is_sum_by sum (λ (x : ℕ). x) refl (λ _ _. refl) l)

-- `find`: the first place ----------------------------------------------------------------------------------------------------------------

-- the library's first place is this one
first-is : (v : ℕ) (l : List ℕ) → first_of v l ≡ position_or_len (λ y. eqb y v) l
unfolding first_of
first-is v =
    is_position_or_len (first_of v) (λ y. eqb y v) refl
    (λ x l. let z : suc (first_of v l) ≡ 1 + first_of v l = omega arith in rw z)

pub first-or_all : (v n : ℕ) (l : List ℕ) (r : Option ℕ) → r ≡ position (λ y. eqb y v) l → length l ≡ n → unwrap_or r n ≡ first_of v l
first-or_all v n l r e h = grind (arith, first-is v l, prefix_len-le-length (λ y. not (eqb y v)) l)

-- `same`: the library's test of two lists of words is this one -----------------------------------------------------------------------------

pub same-pointwise : (x y : List ℕ) → pointwise eqb x y ≡ same x y
unfolding same
same-pointwise [] [] = refl
same-pointwise [] (y ∷ b) = refl
same-pointwise (x ∷ a) [] = refl
same-pointwise (x ∷ a) (y ∷ b) = rw (same-pointwise a b)

-- the same by the places of the words, from place i on
pub same-all : (x y : List ℕ) → length x ≡ length y → (i k : ℕ) → i + k ≡ length x
    → list_all (λ (i : ℕ). eqb (get_or x i 0) (get_or y i 0)) (range_with_len i k) ≡ same (drop i x) (drop i y)
unfolding same
same-all x y e i zero h = rw (drop_of_length-le x {i = i} (omega arith), drop_of_length-le y {i = i} (omega arith))
same-all x y e i (suc k) h =
    let z : suc i ≡ i + 1 = omega arith in
    let a : drop i x ≡ get_or x i 0 ∷ drop (i + 1) x = drop-cons x i 0 (omega arith) ∙ ap (λ (j : ℕ). get_or x i 0 ∷ drop j x) z in
    let b : drop i y ≡ get_or y i 0 ∷ drop (i + 1) y = drop-cons y i 0 (omega arith) ∙ ap (λ (j : ℕ). get_or y i 0 ∷ drop j y) z in
    rw (a, b, same-all x y e (i + 1) k (omega arith))

-- `insert`: one row's words from place `at` on have moved back by one ---------------------------------------------------------------------

-- the last of the words in front is another
set_last : (o l : List ℕ) (i v : ℕ) → i < length o → set (take (suc i) o ++ l) i v ≡ take i o ++ (v ∷ l)
set_last o l i v h =
    rw (take-suc o i 0 h, append_snoc (take i o) (get_or o i 0) l)
    (set_at (take i o) (get_or o i 0) l v i (length-take-le i o (omega arith)))

pub insert-moved : (o w : List ℕ) (at end v : ℕ) → w ≡ copy_within o at end (at + 1) → at ≤ end → end < length o
    → set w at v ≡ inserted at end v o
insert-moved o w at end v e le lt =
    let y : at + 1 ≡ suc at = omega arith in
    let z : suc at + (end - at) ≡ suc end = omega arith in
    let d : w ≡ take (suc at) o ++ (take (end - at) (drop at o) ++ drop (suc end) o) =
    e ∙ rw (y, z) (append_assoc (take (suc at) o) (take (end - at) (drop at o)) (drop (suc end) o)) in
    rw d (set_last o (take (end - at) (drop at o) ++ drop (suc end) o) at v (omega arith))

-- `delete`: one row's words behind place `at` have moved up by one ------------------------------------------------------------------------

pub delete-moved : (o w : List ℕ) (at last : ℕ) → w ≡ copy_within o (at + 1) (last + 1) at → at ≤ last → last < length o
    → set w last 0 ≡ deleted at last o
delete-moved o w at last e le lt =
    let moved : List ℕ = take (last - at) (drop (suc at) o) in
    let z : last + 1 - (at + 1) ≡ last - at = omega arith in
    let stop : at + (last - at) ≡ last = omega arith in
    let enough : last - at ≤ length (drop (suc at) o) = simp length-drop (omega arith) in
    let long : length (take at o ++ moved) ≡ last = length_paste_head o at (drop (suc at) o) (last - at) (omega arith) enough ∙ stop in
    let d : w ≡ (take at o ++ moved) ++ (get_or o last 0 ∷ drop (suc last) o) =
    rw (z, stop, add-one, drop-cons o last 0 lt) at e in
    rw d (set_at (take at o ++ moved) (get_or o last 0) (drop (suc last) o) 0 last long ∙
    append_assoc (take at o) moved (0 ∷ drop (suc last) o))

-- one row, moved word by word (`rows/proofs` ShiftLaws) -----------------------------------------------------------------------------------

-- the words from place i on are those from there to place j and those from place j on
parted : (o : List ℕ) (i j : ℕ) → i ≤ j → take (j - i) (drop i o) ++ drop j o ≡ drop i o
parted o i j le =
    let z : i + (j - i) ≡ j = omega arith in
    ap (λ (k : ℕ). take (j - i) (drop i o) ++ drop k o) (sym z) ∙
    (ap (λ (l : List ℕ). take (j - i) (drop i o) ++ l) (sym (drop-drop (j - i) i o)) ∙ take-append-drop (j - i) (drop i o))

module _ (o : List ℕ) (at end : ℕ) (le : at ≤ end) (lt : end < length o) where
  front-size : length (take at o) ≡ at
  front-size = length-take-le at o (omega arith)

  -- the words that move, of an insertion and of a removal
  back-size : length (take (end - at) (drop at o)) ≡ end - at
  back-size = length-take-le (end - at) (drop at o) (omega (arith, length-drop at o))

  up-size : length (take (end - at) (drop (suc at) o)) ≡ end - at
  up-size = length-take-le (end - at) (drop (suc at) o) (omega (arith, length-drop (suc at) o))

  pub insertion : (v : ℕ) → Shifted 0 (inserted at end v o) o at end
  insertion v =
      let whole : take at o ++ (take (end - at) (drop at o) ++ (get_or o end 0 ∷ drop (suc end) o)) ≡ o =
      ap (λ (l : List ℕ). take at o ++ (take (end - at) (drop at o) ++ l)) (sym (drop-cons o end 0 lt)) ∙
      (ap (λ (l : List ℕ). take at o ++ l) (parted o at end le) ∙ take-append-drop at o) in
      subst (λ (y : List ℕ). Shifted 0 (inserted at end v o) y at end) whole
      (shifted 0 (take at o) (take (end - at) (drop at o)) (drop (suc end) o) v (get_or o end 0) at end front-size
      (omega (arith, front-size, back-size)))

  pub inserted_at : (v : ℕ) → get_or (inserted at end v o) at 0 ≡ v
  inserted_at v = get_or_at (take at o) v _ 0 at front-size

  pub removal : Shifted 0 o (deleted at end o) at end
  removal =
      let z : suc end - suc at ≡ end - at = omega arith in
      let whole : take at o ++ (get_or o at 0 ∷ (take (end - at) (drop (suc at) o) ++ drop (suc end) o)) ≡ o =
      ap (λ (l : List ℕ). take at o ++ (get_or o at 0 ∷ l)) (rw z at (parted o (suc at) (suc end) (omega arith))) ∙
      sym (split_at o at 0 (omega arith)) in
      subst (λ (x : List ℕ). Shifted 0 x (deleted at end o) at end) whole
      (shifted 0 (take at o) (take (end - at) (drop (suc at) o)) (drop (suc end) o) (get_or o at 0) 0 at end front-size
      (omega (arith, front-size, up-size)))

  pub deleted_last : get_or (deleted at end o) end 0 ≡ 0
  deleted_last =
      let p : List ℕ = take at o ++ take (end - at) (drop (suc at) o) in
      let n : length p ≡ end = length-append (take at o) (take (end - at) (drop (suc at) o)) ∙ omega (arith, front-size, up-size) in
      rw append_assoc at (get_or_at p 0 (drop (suc end) o) 0 end n)

-- two rows of one length, the one up to place k and the other behind it, are as long
pub halves-size : (k : ℕ) (a b : List ℕ) → k ≤ length a → length a ≡ length b → length (take k a ++ drop k b) ≡ length b
halves-size k a b h e = omega (arith, length-append (take k a) (drop k b), length-take-le k a h, length-drop k b)
