-- The words as three parts, the counts, the numbers and the marks: a word read or stored in one of them, and one put in or taken out, leaves the others.
-- So the two rows move side by side, each as if it were alone.
use Prim.Native.Nat.{ℕ, suc, ◌+◌, ◌-◌, ◌<◌, ◌≤◌}
use native.Mathlib.Omega.{arith}
use mathlib.Core.Path.{◌≡◌, refl, sym, ap, ◌∙◌}
use mathlib.Core.List.{List, [], ◌∷◌, ◌++◌, append_assoc, append-nil}
use lib.ListN.{length, get_or, set, take, drop, length-set, length-drop, length-append, take-append-drop, get_or-append}
use lib.Seq.{take-append-le, drop-append-le, take-append-add, drop-append-add, get_or-append-add, set-append_left, length-take-le, drop-drop}
use Rattle.system.specs.Limits.{system_messages}
use Rattle.sim_index.specs.Index.{numbers_from, marks_from, index_size}
use Rattle.sim_index.specs.Calls.{inserted, deleted}
use Rattle.rows.proofs.ShiftLaws.{Shifted, rise_start, rise_on, rise_end, sink_start, sink_on, sink_end}
use Rattle.sim_index.proofs.LoopLaws.{insertion, inserted_at, removal, deleted_last, halves-size}

-- a part behind others
module _ (h r : List ℕ) where
  set-behind : (i v : ℕ) → set (h ++ r) (length h + i) v ≡ h ++ set r i v
  set-behind i v = go h
    where
      go : (h : List ℕ) → set (h ++ r) (length h + i) v ≡ h ++ set r i v
      go [] = let z : 0 + i ≡ i = omega arith in ap (λ (k : ℕ). set r k v) z
      go (y ∷ h) = let z : suc (length h) + i ≡ suc (length h + i) = omega arith in
          ap (λ (k : ℕ). set (y ∷ (h ++ r)) k v) z ∙ ap (λ (l : List ℕ). y ∷ l) (go h)

-- one part n, with h before it and m behind it
module _ (h n m : List ℕ) where
  pub in_part : (i v : ℕ) → i < length n → set (h ++ (n ++ m)) (length h + i) v ≡ h ++ (set n i v ++ m)
  in_part i v lt = set-behind h (n ++ m) i v ∙ ap (λ (l : List ℕ). h ++ l) (set-append_left n m i v lt)

  pub of_part : (i : ℕ) → i < length n → get_or (h ++ (n ++ m)) (length h + i) 0 ≡ get_or n i 0
  of_part i lt = get_or-append-add h (n ++ m) i 0 ∙ get_or-append n m 0 i lt

  abbrev whole : List ℕ
  whole = h ++ (n ++ m)

  front : (k : ℕ) → k ≤ length n → take (length h + k) whole ≡ h ++ take k n
  front k le = take-append-add h (n ++ m) k ∙ ap (λ (l : List ℕ). h ++ l) (take-append-le k n m le)

  rest : (k : ℕ) → k ≤ length n → drop (length h + k) whole ≡ drop k n ++ m
  rest k le = drop-append-add h (n ++ m) k ∙ drop-append-le k n m le

  rest-next : (k : ℕ) → k < length n → drop (suc (length h + k)) whole ≡ drop (suc k) n ++ m
  rest-next k lt = let z : suc (length h + k) ≡ length h + suc k = omega arith in ap (λ (i : ℕ). drop i whole) z ∙ rest (suc k) lt

  pub insert-part : (at end v : ℕ) → at ≤ end → end < length n
      → inserted (length h + at) (length h + end) v whole ≡ h ++ (inserted at end v n ++ m)
  insert-part at end v le lt =
      let z : length h + end - (length h + at) ≡ end - at = omega arith in
      let few : end - at ≤ length (drop at n) = omega (arith, length-drop at n) in
      rw (front at (omega arith), rest at (omega arith), rest-next end lt, z, take-append-le (end - at) (drop at n) m few) (simp append_assoc)

  pub delete-part : (at last : ℕ) → at ≤ last → last < length n
      → deleted (length h + at) (length h + last) whole ≡ h ++ (deleted at last n ++ m)
  delete-part at last le lt =
      let z : length h + last - (length h + at) ≡ last - at = omega arith in
      let few : last - at ≤ length (drop (suc at) n) = omega (arith, length-drop (suc at) n) in
      rw (front at (omega arith), rest-next at (omega arith), rest-next last lt, z, take-append-le (last - at) (drop (suc at) n) m few) (simp append_assoc)

-- the three parts, as long as they are in an index
module _ (h n m : List ℕ) (first : length h ≡ numbers_from) (second : length n ≡ system_messages) (third : length m ≡ system_messages) where
  -- the marks are a part behind the two others
  marks_part_lem : h ++ (n ++ m) ≡ (h ++ n) ++ (m ++ [])
  marks_part_lem = simp (append_assoc, append-nil)

  marks_back : (l : List ℕ) → (h ++ n) ++ (l ++ []) ≡ h ++ (n ++ l)
  marks_back l = simp (append_assoc, append-nil)

  both : length (h ++ n) ≡ marks_from
  both = omega (arith, length-append h n, first, second)

  module _ (i : ℕ) (lt : i < system_messages) where
    pub set-number : (v : ℕ) → set (h ++ (n ++ m)) (numbers_from + i) v ≡ h ++ (set n i v ++ m)
    set-number v = rw (← first) (in_part h n m i v (omega (arith, second)))

    pub set-mark : (v : ℕ) → set (h ++ (n ++ m)) (marks_from + i) v ≡ h ++ (n ++ set m i v)
    set-mark v = rw (← both, marks_part_lem) (in_part (h ++ n) m [] i v (omega (arith, third)) ∙ marks_back (set m i v))

    pub get_number : get_or (h ++ (n ++ m)) (numbers_from + i) 0 ≡ get_or n i 0
    get_number = rw (← first) (of_part h n m i (omega (arith, second)))

    pub get_mark : get_or (h ++ (n ++ m)) (marks_from + i) 0 ≡ get_or m i 0
    get_mark = rw (← both, marks_part_lem) (of_part (h ++ n) m [] i (omega (arith, third)))

  module _ (at end : ℕ) (le : at ≤ end) (lt : end < system_messages) where
    pub insert-number : (v : ℕ) → inserted (numbers_from + at) (numbers_from + end) v (h ++ (n ++ m)) ≡ h ++ (inserted at end v n ++ m)
    insert-number v = rw (← first) (insert-part h n m at end v le (omega (arith, second)))

    pub insert-mark : (v : ℕ) → inserted (marks_from + at) (marks_from + end) v (h ++ (n ++ m)) ≡ h ++ (n ++ inserted at end v m)
    insert-mark v = rw (← both, marks_part_lem) (insert-part (h ++ n) m [] at end v le (omega (arith, third)) ∙ marks_back (inserted at end v m))

    pub delete-number : deleted (numbers_from + at) (numbers_from + end) (h ++ (n ++ m)) ≡ h ++ (deleted at end n ++ m)
    delete-number = rw (← first) (delete-part h n m at end le (omega (arith, second)))

    pub delete-mark : deleted (marks_from + at) (marks_from + end) (h ++ (n ++ m)) ≡ h ++ (n ++ deleted at end m)
    delete-mark = rw (← both, marks_part_lem) (delete-part (h ++ n) m [] at end le (omega (arith, third)) ∙ marks_back (deleted at end m))

-- the parts of an index's words, and the words with other rows
abbrev pub counts_part : List ℕ → List ℕ
counts_part o = take numbers_from o

abbrev pub numbers_part : List ℕ → List ℕ
numbers_part o = take system_messages (drop numbers_from o)

abbrev pub marks_part : List ℕ → List ℕ
marks_part o = drop marks_from o

abbrev pub with_rows : List ℕ → List ℕ → List ℕ → List ℕ
with_rows o n m = counts_part o ++ (n ++ m)

-- what a turn of the loops leaves: the word of place `from` stands at place `to` too, and then that of place `from2` at place `to2`
abbrev turn : List ℕ → ℕ → ℕ → ℕ → ℕ → List ℕ
turn x to from to2 from2 = let y : List ℕ = set x to (get_or x from 0) in set y to2 (get_or y from2 0)

module _ (o : List ℕ) (size : length o ≡ index_size) where
  counts-long : length (counts_part o) ≡ numbers_from
  counts-long = length-take-le numbers_from o (omega arith)

  numbers-long : length (numbers_part o) ≡ system_messages
  numbers-long = length-take-le system_messages (drop numbers_from o) (omega (arith, length-drop numbers_from o))

  marks_long : length (marks_part o) ≡ system_messages
  marks_long = omega (arith, length-drop marks_from o)

  three : with_rows o (numbers_part o) (marks_part o) ≡ o
  three =
      rw (← drop-drop system_messages numbers_from o, take-append-drop system_messages (drop numbers_from o)) (take-append-drop numbers_from o)

  -- a number and a mark stored at place k
  module _ (n m : List ℕ) (second : length n ≡ system_messages) (third : length m ≡ system_messages) (k : ℕ) (lt : k < system_messages) where
    with_number : (v : ℕ) → set (with_rows o n m) (numbers_from + k) v ≡ with_rows o (set n k v) m
    with_number v = set-number (counts_part o) n m counts-long second third k lt v

    rows-stored : (v w : ℕ) → set (set (with_rows o n m) (numbers_from + k) v) (marks_from + k) w ≡ with_rows o (set n k v) (set m k w)
    rows-stored v w =
        ap (λ (y : List ℕ). set y (marks_from + k) w) (with_number v) ∙
        set-mark (counts_part o) (set n k v) m counts-long (length-set n k v ∙ second) third k lt w

    -- those of place j
    rows-moved : (j : ℕ) → j < system_messages
        → turn (with_rows o n m) (numbers_from + k) (numbers_from + j) (marks_from + k) (marks_from + j)
        ≡ with_rows o (set n k (get_or n j 0)) (set m k (get_or m j 0))
    rows-moved j lj =
        let v : ℕ = get_or (with_rows o n m) (numbers_from + j) 0 in
        let a : v ≡ get_or n j 0 = get_number (counts_part o) n m counts-long second third j lj in
        let b : get_or (set (with_rows o n m) (numbers_from + k) v) (marks_from + j) 0 ≡ get_or m j 0 =
        ap (λ (y : List ℕ). get_or y (marks_from + j) 0) (with_number v) ∙
        get_mark (counts_part o) (set n k v) m counts-long (length-set n k v ∙ second) third j lj in
        rows-stored v (get_or (set (with_rows o n m) (numbers_from + k) v) (marks_from + j) 0) ∙ (λ i. with_rows o (set n k (a i)) (set m k (b i)))

-- `insert`: in both rows the words behind place i have moved back, and up to it all is as it was
abbrev pub opened : List ℕ → ℕ → ℕ → ℕ → ℕ → ℕ → List ℕ
opened o at end number mark i =
    with_rows o (take (suc i) (numbers_part o) ++ drop (suc i) (inserted at end number (numbers_part o)))
    (take (suc i) (marks_part o) ++ drop (suc i) (inserted at end mark (marks_part o)))

module _ (o : List ℕ) (size : length o ≡ index_size) (at end number mark : ℕ) (le : at ≤ end) (lt : end < system_messages) where
  numbers-insertion : Shifted 0 (inserted at end number (numbers_part o)) (numbers_part o) at end
  numbers-insertion = insertion (numbers_part o) at end le (omega (arith, numbers-long o size)) number

  marks-insertion : Shifted 0 (inserted at end mark (marks_part o)) (marks_part o) at end
  marks-insertion = insertion (marks_part o) at end le (omega (arith, marks_long o size)) mark

  pub opened-none : o ≡ opened o at end number mark end
  opened-none =
      sym (three o size) ∙ (λ j. with_rows o (sink_start 0 _ _ at end numbers-insertion j) (sink_start 0 _ _ at end marks-insertion j))

  -- between two turns the rows are as long as they were
  module _ (i : ℕ) (h : i ≤ end) where
    numbers-back : length (take (suc i) (numbers_part o) ++ drop (suc i) (inserted at end number (numbers_part o))) ≡ system_messages
    numbers-back =
        halves-size (suc i) _ _ (omega (arith, numbers-long o size)) numbers-insertion.size ∙ (sym numbers-insertion.size ∙ numbers-long o size)

    marks-back : length (take (suc i) (marks_part o) ++ drop (suc i) (inserted at end mark (marks_part o))) ≡ system_messages
    marks-back = halves-size (suc i) _ _ (omega (arith, marks_long o size)) marks-insertion.size ∙ (sym marks-insertion.size ∙ marks_long o size)

  module _ (x : List ℕ) (i : ℕ) (h : i ≤ end) (e : x ≡ opened o at end number mark i) where
    pub opened-more : at < i
        → turn x (numbers_from + (i - 1) + 1) (numbers_from + (i - 1)) (marks_from + (i - 1) + 1) (marks_from + (i - 1))
        ≡ opened o at end number mark (i - 1)
    opened-more g =
        let a : numbers_from + (i - 1) + 1 ≡ numbers_from + i = omega arith in
        let b : marks_from + (i - 1) + 1 ≡ marks_from + i = omega arith in
        let n = sink_on 0 _ _ at end numbers-insertion i _ refl g h in
        let m = sink_on 0 _ _ at end marks-insertion i _ refl g h in
        rw (e, a, b)
        (rows-moved o size _ _ (numbers-back i h) (marks-back i h) i (omega arith) (i - 1) (omega arith) ∙ (λ j. with_rows o (n j) (m j)))

    pub opened-all : i ≡ at
        → set (set x (numbers_from + at) number) (marks_from + at) mark
        ≡ inserted (marks_from + at) (marks_from + end) mark (inserted (numbers_from + at) (numbers_from + end) number o)
    opened-all z =
        let p = inserted_at (numbers_part o) at end le (omega (arith, numbers-long o size)) number in
        let q = inserted_at (marks_part o) at end le (omega (arith, marks_long o size)) mark in
        let n = rw p at (sink_end 0 _ _ at end numbers-insertion i _ refl z) in
        let m = rw q at (sink_end 0 _ _ at end marks-insertion i _ refl z) in
        let first = counts-long o size in
        let second = sym numbers-insertion.size ∙ numbers-long o size in
        let third = marks_long o size in
        rw e (rows-stored o size _ _ (numbers-back i h) (marks-back i h) at (omega arith) number mark ∙ (λ j. with_rows o (n j) (m j))) ∙
        sym (ap (λ (y : List ℕ). inserted (marks_from + at) (marks_from + end) mark (inserted (numbers_from + at) (numbers_from + end) number y))
        (sym (three o size)) ∙
        ap (inserted (marks_from + at) (marks_from + end) mark)
        (insert-number (counts_part o) (numbers_part o) (marks_part o) first (numbers-long o size) third at end le lt number) ∙
        insert-mark (counts_part o) (inserted at end number (numbers_part o)) (marks_part o) first second third at end le lt mark)

-- `delete`: in both rows the words before place i have moved up, and from it on all is as it was
abbrev pub closed : List ℕ → ℕ → ℕ → ℕ → List ℕ
closed o at last i =
    with_rows o (take i (deleted at last (numbers_part o)) ++ drop i (numbers_part o))
    (take i (deleted at last (marks_part o)) ++ drop i (marks_part o))

module _ (o : List ℕ) (size : length o ≡ index_size) (at last : ℕ) (le : at ≤ last) (lt : last < system_messages) where
  numbers-removal : Shifted 0 (numbers_part o) (deleted at last (numbers_part o)) at last
  numbers-removal = removal (numbers_part o) at last le (omega (arith, numbers-long o size))

  marks-removal : Shifted 0 (marks_part o) (deleted at last (marks_part o)) at last
  marks-removal = removal (marks_part o) at last le (omega (arith, marks_long o size))

  pub closed_none : o ≡ closed o at last at
  closed_none =
      sym (three o size) ∙ (λ j. with_rows o (rise_start 0 _ _ at last numbers-removal j) (rise_start 0 _ _ at last marks-removal j))

  module _ (x : List ℕ) (i : ℕ) (h : i ≤ last) (e : x ≡ closed o at last i) where
    numbers-up : length (take i (deleted at last (numbers_part o)) ++ drop i (numbers_part o)) ≡ system_messages
    numbers-up = halves-size i _ _ (omega (arith, numbers-removal.size, numbers-long o size)) numbers-removal.size ∙ numbers-long o size

    marks-up : length (take i (deleted at last (marks_part o)) ++ drop i (marks_part o)) ≡ system_messages
    marks-up = halves-size i _ _ (omega (arith, marks-removal.size, marks_long o size)) marks-removal.size ∙ marks_long o size

    pub closed-more : at ≤ i → i < last
        → turn x (numbers_from + i) (numbers_from + i + 1) (marks_from + i) (marks_from + i + 1) ≡ closed o at last (i + 1)
    closed-more l g =
        let a : numbers_from + i + 1 ≡ numbers_from + (i + 1) = omega arith in
        let b : marks_from + i + 1 ≡ marks_from + (i + 1) = omega arith in
        let n = rise_on 0 _ _ at last numbers-removal i _ refl l g in
        let m = rise_on 0 _ _ at last marks-removal i _ refl l g in
        rw (e, a, b) (rows-moved o size _ _ numbers-up marks-up i (omega arith) (i + 1) (omega arith) ∙ (λ j. with_rows o (n j) (m j)))

    pub closed_all : i ≡ last
        → set (set x (numbers_from + last) 0) (marks_from + last) 0
        ≡ deleted (marks_from + at) (marks_from + last) (deleted (numbers_from + at) (numbers_from + last) o)
    closed_all z =
        let first = counts-long o size in
        let second = numbers-removal.size ∙ numbers-long o size in
        let third = marks_long o size in
        let p = deleted_last (numbers_part o) at last le (omega (arith, numbers-long o size)) in
        let q = deleted_last (marks_part o) at last le (omega (arith, marks_long o size)) in
        let n = rw p at (rise_end 0 _ _ at last numbers-removal i _ refl z) in
        let m = rw q at (rise_end 0 _ _ at last marks-removal i _ refl z) in
        rw e (rows-stored o size _ _ numbers-up marks-up last lt 0 0 ∙ (λ j. with_rows o (n j) (m j))) ∙
        sym (ap (λ (y : List ℕ). deleted (marks_from + at) (marks_from + last) (deleted (numbers_from + at) (numbers_from + last) y))
        (sym (three o size)) ∙
        ap (deleted (marks_from + at) (marks_from + last))
        (delete-number (counts_part o) (numbers_part o) (marks_part o) first (numbers-long o size) third at last le lt) ∙
        delete-mark (counts_part o) (deleted at last (numbers_part o)) (marks_part o) first second third at last le lt)
