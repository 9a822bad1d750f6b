-- A word put in, taken out, read and set in a padded part of the words: what stands before the part and behind it stays. The numbers are such
-- a part, and so are the marks.
use Prim.Native.Nat.{ℕ, suc, ◌+◌, ◌-◌, ◌<◌, ◌≤◌}
use native.Mathlib.Omega.{arith}
use mathlib.Core.Path.{◌≡◌, refl, sym, ap, ◌∙◌}
use mathlib.Core.List.{List, [], ◌∷◌, ◌++◌, map, map-append, append_assoc, append-nil}
use lib.ListN.{length, get_or, set, take, drop, replicate, length-append, length-map, length-replicate, get_or-append}
use lib.Seq.{set_at, take_at, drop_at, get_or_at, set-append_left, drop-append-add}
use Rattle.system.specs.Limits.{system_messages}
use Rattle.sim_index.specs.declared.Card.{Card}
use Rattle.sim_index.specs.Index.{receivers, numbers_from, marks_from, index_size, padded, numbers_of, marks_of}
use Rattle.sim_index.specs.Calls.{inserted, deleted}

-- w put in before b, where the word behind b goes; and w taken out there
module _ (a b d : List ℕ) (w at end : ℕ) (e : length a ≡ at) (f : at + length b ≡ end) where
  count : length b ≡ end - at
  count = omega (arith, f)

  past : (n k : ℕ) (l : List ℕ) → at + n ≡ k → drop k (a ++ l) ≡ drop n l
  past n k l h = let z : k ≡ length a + n = omega (arith, e, h) in rw z (drop-append-add a l n)

  put-before : (z : ℕ) → inserted at end w (a ++ (b ++ (z ∷ d))) ≡ a ++ (w ∷ (b ++ d))
  put-before z =
      let behind : drop (suc end) (a ++ (b ++ (z ∷ d))) ≡ d =
      past (length b + 1) (suc end) (b ++ (z ∷ d)) (omega (arith, f)) ∙ drop-append-add b (z ∷ d) 1 in
      rw (take_at a (b ++ (z ∷ d)) at e, drop_at a (b ++ (z ∷ d)) at e, take_at b (z ∷ d) (end - at) count, behind)

  taken-before : deleted at end (a ++ (w ∷ (b ++ d))) ≡ a ++ (b ++ (0 ∷ d))
  taken-before =
      let next : drop (suc at) (a ++ (w ∷ (b ++ d))) ≡ b ++ d = past 1 (suc at) (w ∷ (b ++ d)) (omega arith) in
      let behind : drop (suc end) (a ++ (w ∷ (b ++ d))) ≡ d =
      past (suc (length b)) (suc end) (w ∷ (b ++ d)) (omega (arith, f)) ∙ drop_at b d (length b) refl in
      rw (take_at a (w ∷ (b ++ d)) at e, next, take_at b d (end - at) count, behind)

-- the first i of n cards are u, the others v, and there is room for one more
pub record Cut (u v : List Card) (i n : ℕ) : Type 0 where
  pub first : length u ≡ i
  pub all : length u + length v ≡ n
  pub room : n < system_messages

-- what f says of these cards, in a padded part behind the words a: what stands there, and what a card between u and v changes
module _ {u v : List Card} {i n : ℕ} (C : Cut u v i n) (f : Card → ℕ) (a e : List ℕ) (from : ℕ) (here : length a ≡ from) where
  abbrev rest : List ℕ
  rest = replicate (system_messages - suc n) 0 ++ e

  without : a ++ (padded (map f (u ++ v)) ++ e) ≡ (a ++ map f u) ++ (map f v ++ (0 ∷ rest))
  unfolding padded
  without =
      let z : system_messages - length (map f u ++ map f v) ≡ suc (system_messages - suc n) =
      omega (arith, length-append (map f u) (map f v), length-map u f, length-map v f, C.all) in
      rw (map-append f u v, z) (simp append_assoc)

  with : (c : Card) → a ++ (padded (map f (u ++ (c ∷ v))) ++ e) ≡ (a ++ map f u) ++ (f c ∷ (map f v ++ rest))
  unfolding padded
  with c =
      let z : system_messages - length (map f u ++ (f c ∷ map f v)) ≡ system_messages - suc n =
      omega (arith, length-append (map f u) (f c ∷ map f v), length-map u f, length-map v f, C.all) in
      rw (map-append f u (c ∷ v), z) (simp append_assoc)

  place : length (a ++ map f u) ≡ from + i
  place = omega (arith, length-append a (map f u), here, length-map u f, C.first)

  stop : from + i + length (map f v) ≡ from + n
  stop = omega (arith, length-map v f, C.first, C.all)

  put : (c : Card) → inserted (from + i) (from + n) (f c) (a ++ (padded (map f (u ++ v)) ++ e)) ≡ a ++ (padded (map f (u ++ (c ∷ v))) ++ e)
  put c = rw (without, with c) (put-before (a ++ map f u) (map f v) rest (f c) (from + i) (from + n) place stop 0)

  taken : (c : Card) → deleted (from + i) (from + n) (a ++ (padded (map f (u ++ (c ∷ v))) ++ e)) ≡ a ++ (padded (map f (u ++ v)) ++ e)
  taken c = rw (without, with c) (taken-before (a ++ map f u) (map f v) rest (f c) (from + i) (from + n) place stop)

  there : (c : Card) → get_or (a ++ (padded (map f (u ++ (c ∷ v))) ++ e)) (from + i) 0 ≡ f c
  there c = rw (with c) (get_or_at (a ++ map f u) (f c) (map f v ++ rest) 0 (from + i) place)

  another : (c d : Card) → set (a ++ (padded (map f (u ++ (c ∷ v))) ++ e)) (from + i) (f d) ≡ a ++ (padded (map f (u ++ (d ∷ v))) ++ e)
  another c d = rw (with c, with d) (set_at (a ++ map f u) (f c) (map f v ++ rest) (f d) (from + i) place)

-- the words of cards in their order, behind their counts -----------------------------------------------------------------------------------

abbrev pub words_of : List ℕ → List Card → List ℕ
words_of cs l = cs ++ (padded (numbers_of l) ++ padded (marks_of l))

abbrev number_of : Card → ℕ
number_of c = c.number

abbrev mark_of : Card → ℕ
mark_of c = c.mark

length-padded : (f : Card → ℕ) (l : List Card) → length l ≤ system_messages → length (padded (map f l)) ≡ system_messages
unfolding padded
length-padded f l h =
    let k : ℕ = system_messages - length (map f l) in
    omega (arith, length-append (map f l) (replicate k 0), length-replicate {A = ℕ} k 0, length-map l f)

-- the marks are a padded part too, behind the numbers
marks_part_lem : (cs ns ms : List ℕ) → cs ++ (padded ns ++ padded ms) ≡ (cs ++ padded ns) ++ (padded ms ++ [])
marks_part_lem cs ns ms = simp (append_assoc, append-nil)

-- a field of the cards v, where those of the cards u stand before it in a padded part
run-there : (front rest : List ℕ) (f : Card → ℕ) (u v w : List Card) (from : ℕ) → length front ≡ from
    → take (length v) (drop (from + length u) (front ++ (padded (map f (u ++ (v ++ w))) ++ rest))) ≡ map f v
unfolding padded
run-there front rest f u v w from long =
    let t : List Card = u ++ (v ++ w) in
    let more : List ℕ = map f w ++ (replicate (system_messages - length (map f t)) 0 ++ rest) in
    let e : front ++ (padded (map f t) ++ rest) ≡ (front ++ map f u) ++ (map f v ++ more) =
    rw (map-append f u (v ++ w), map-append f v w) (simp append_assoc) in
    let before : length (front ++ map f u) ≡ from + length u = omega (arith, long, length-append front (map f u), length-map u f) in
    rw (e, drop_at (front ++ map f u) (map f v ++ more) (from + length u) before) (take_at (map f v) more (length v) (length-map v f))

module _ (cs : List ℕ) (many : length cs ≡ receivers) where
  marks_here : (l : List Card) → length l ≤ system_messages → length (cs ++ padded (numbers_of l)) ≡ marks_from
  marks_here l h = omega (arith, many, length-append cs (padded (numbers_of l)), length-padded number_of l h)

  module _ (l : List Card) where
    pub length-words : length l ≤ system_messages → length (words_of cs l) ≡ index_size
    length-words h =
        let ns : List ℕ = padded (numbers_of l) in
        let ms : List ℕ = padded (marks_of l) in
        omega (arith, many, length-append cs (ns ++ ms), length-append ns ms, length-padded number_of l h, length-padded mark_of l h)

    pub words_count : (p : ℕ) → p < receivers → get_or (words_of cs l) p 0 ≡ get_or cs p 0
    words_count p h = get_or-append cs (padded (numbers_of l) ++ padded (marks_of l)) 0 p (omega (arith, many))

    pub words-set : (p v : ℕ) → p < receivers → set (words_of cs l) p v ≡ words_of (set cs p v) l
    words-set p v h = set-append_left cs (padded (numbers_of l) ++ padded (marks_of l)) p v (omega (arith, many))

  -- the numbers of the cards v, behind those of the cards u; and so the marks
  module _ (u v w : List Card) where
    pub words-run : take (length v) (drop (numbers_from + length u) (words_of cs (u ++ (v ++ w)))) ≡ numbers_of v
    words-run = run-there cs (padded (marks_of (u ++ (v ++ w)))) number_of u v w numbers_from many

    pub words_marks : length (u ++ (v ++ w)) ≤ system_messages
        → take (length v) (drop (marks_from + length u) (words_of cs (u ++ (v ++ w)))) ≡ marks_of v
    words_marks h =
        let t : List Card = u ++ (v ++ w) in
        rw (marks_part_lem cs (numbers_of t) (marks_of t)) (run-there (cs ++ padded (numbers_of t)) [] mark_of u v w marks_from (marks_here t h))

module _ {u v : List Card} {i n : ℕ} (C : Cut u v i n) (cs : List ℕ) (many : length cs ≡ receivers) (c : Card) where
  abbrev l : List Card
  l = u ++ (c ∷ v)

  marks_with : length (cs ++ padded (numbers_of l)) ≡ marks_from
  marks_with = marks_here cs many l (omega (arith, length-append u (c ∷ v), C.all, C.room))

  marks_without : length (cs ++ padded (numbers_of (u ++ v))) ≡ marks_from
  marks_without = marks_here cs many (u ++ v) (omega (arith, length-append u v, C.all, C.room))

  pub card_number : get_or (words_of cs (u ++ (c ∷ v))) (numbers_from + i) 0 ≡ c.number
  card_number = there C number_of cs (padded (marks_of l)) numbers_from many c

  pub card_mark : get_or (words_of cs (u ++ (c ∷ v))) (marks_from + i) 0 ≡ c.mark
  card_mark =
      rw (marks_part_lem cs (numbers_of l) (marks_of l))
      (there C mark_of (cs ++ padded (numbers_of l)) [] marks_from marks_with c)

  pub card_marked : (m : ℕ)
      → set (words_of cs (u ++ (c ∷ v))) (marks_from + i) m ≡ words_of cs (u ++ (record { place = c.place; number = c.number; mark = m } ∷ v))
  card_marked m =
      let d : Card = record { place = c.place; number = c.number; mark = m } in
      let same : numbers_of (u ++ (d ∷ v)) ≡ numbers_of l = map-append number_of u (d ∷ v) ∙ sym (map-append number_of u (c ∷ v)) in
      rw (same, marks_part_lem cs (numbers_of l) (marks_of l), marks_part_lem cs (numbers_of l) (marks_of (u ++ (d ∷ v))))
      (another C mark_of (cs ++ padded (numbers_of l)) [] marks_from marks_with c d)

  pub card-put :
      inserted (marks_from + i) (marks_from + n) c.mark (inserted (numbers_from + i) (numbers_from + n) c.number (words_of cs (u ++ v)))
      ≡ words_of cs (u ++ (c ∷ v))
  card-put =
      ap (inserted (marks_from + i) (marks_from + n) c.mark)
      (put C number_of cs (padded (marks_of (u ++ v))) numbers_from many c) ∙
      rw (marks_part_lem cs (numbers_of l) (marks_of (u ++ v)), marks_part_lem cs (numbers_of l) (marks_of l))
      (put C mark_of (cs ++ padded (numbers_of l)) [] marks_from marks_with c)

  pub card-taken :
      deleted (marks_from + i) (marks_from + n) (deleted (numbers_from + i) (numbers_from + n) (words_of cs (u ++ (c ∷ v)))) ≡ words_of cs (u ++ v)
  card-taken =
      ap (deleted (marks_from + i) (marks_from + n))
      (taken C number_of cs (padded (marks_of l)) numbers_from many c) ∙
      rw (marks_part_lem cs (numbers_of (u ++ v)) (marks_of l), marks_part_lem cs (numbers_of (u ++ v)) (marks_of (u ++ v)))
      (taken C mark_of (cs ++ padded (numbers_of (u ++ v))) [] marks_from marks_without c)
