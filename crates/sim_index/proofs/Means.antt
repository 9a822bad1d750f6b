-- The words of an index, and what the calls make of them: a call on the index of some cards leaves the index of the cards with one more,
-- with one less, or with another mark. How many cards a receiver has, where they begin and what stands there follow from the cards.
use Prim.Native.Nat.{ℕ, suc, ◌+◌, ◌-◌, ◌<◌, ◌≤◌}
use native.Mathlib.Omega.{arith}
use mathlib.Core.Path.{◌≡◌, refl, sym, ap, ◌∙◌}
use mathlib.Core.Bool.{Bool, true, false, not}
use mathlib.Core.List.{List, [], ◌∷◌, ◌++◌, map-append, append-nil}
use mathlib.Core.Logic.{inl, inr}
use lib.Dec.{eqb, ltb}
use lib.ListN.{length, get_or, set, take, replicate, length-append}
use lib.Seq.{take-append-le}
use borrow.Author.Tests.{eq-eqb, eqb-true, lt-ltb, ltb-true, ltb-false, not-true}
use Rattle.ids.specs.Lists.{every}
use Rattle.ids.proofs.Choice.{both, decided, Test, clash}
use Rattle.ids.proofs.ListLaws.{every-parts, every_append}
use Rattle.system.specs.Limits.{system_messages}
use Rattle.sim_index.specs.declared.Card.{Card}
use Rattle.sim_index.specs.Index.{receivers, numbers_from, marks_from, index_size, of_place, sorted, counts, padded, numbers_of, index_words, marks_of}
use Rattle.sim_index.specs.Calls.{start_of, first_of, entry_of, added, withdrawn, Sized, same, numbers_in, marks_in}
use Rattle.sim_index.proofs.WordLaws.{words_of, length-words, words_count, words-set, words-run, words_marks}
use Rattle.sim_index.proofs.WordLaws.{Cut, card_number, card_mark, card_marked, card-put, card-taken}
use Rattle.sim_index.proofs.PlaceLaws.{length_more, of_append, of_own, of_longer, of_every, before, behind, beyond}
use Rattle.sim_index.proofs.PlaceLaws.{sorted_none, sorted-below, sorted_around, sorted-without, sorted-with, sorted-longer}
use Rattle.sim_index.proofs.PlaceLaws.{length-counts, counts-below, counts-at, counts-sum, counts_with, counts-without}

-- every card has a receiver; no card has this card's number
abbrev pub Placed : List Card → Type 0
Placed l = every (λ (c : Card). ltb c.place receivers) l ≡ true

abbrev pub Other : Card → List Card → Type 0
Other c l = every (λ (d : Card). not (eqb d.number c.number)) l ≡ true

abbrev fits : Card → Bool
fits c = ltb c.place receivers

abbrev apart : Card → Card → Bool
apart c d = not (eqb d.number c.number)

pub sorted-few : (p : ℕ) (l : List Card) → length (sorted p l) ≤ length l
sorted-few p [] = rw (sorted_none p) (omega arith)
sorted-few p (c ∷ l) = by_test (decided (ltb c.place p)) (sorted-few p l)
  where
    by_test : Test (ltb c.place p) → length (sorted p l) ≤ length l → length (sorted p (c ∷ l)) ≤ suc (length l)
    by_test (inl e) h = omega (arith, h, sorted-longer p [] c l (ltb-true c.place p e))
    by_test (inr e) h = rw (sorted-below [] c l p (ltb-false c.place p e)) (omega (arith, h))

pub sorted_all : (l : List Card) → Placed l → length (sorted receivers l) ≡ length l
sorted_all [] h = rw (sorted_none receivers)
sorted_all (c ∷ l) h =
    let (p, r) = both (fits c) (every fits l) h in
    omega (arith, sorted-longer receivers [] c l (ltb-true c.place receivers p), sorted_all l r)

-- the words: counts, then numbers and marks
index_is : (l : List Card) → index_words l ≡ words_of (counts receivers l) (sorted receivers l)
unfolding index_words
index_is l = refl

pub length-index : (l : List Card) → length l ≤ system_messages → length (index_words l) ≡ index_size
length-index l h =
    let room : length (sorted receivers l) ≤ system_messages = omega (arith, h, sorted-few receivers l) in
    rw (index_is l) (length-words (counts receivers l) (length-counts receivers l) (sorted receivers l) room)

pub index-none : index_words [] ≡ replicate index_size 0
unfolding index_words counts sorted of_place padded
index-none = refl

pub start_is : (p : ℕ) (l : List Card) → p ≤ receivers → start_of p (index_words l) ≡ length (sorted p l)
start_is p l h =
    let e : take p (index_words l) ≡ counts p l =
    rw (index_is l)
    (take-append-le p (counts receivers l) _ (omega (arith, length-counts receivers l)) ∙ counts-below receivers p l h) in
    rw e (counts-sum p l)

pub count-is : (p : ℕ) (l : List Card) → p < receivers → get_or (index_words l) p 0 ≡ length (of_place p l)
count-is p l h =
    rw (index_is l)
    (words_count (counts receivers l) (length-counts receivers l) (sorted receivers l) p h ∙ counts-at receivers p l h)

pub index-sized : (p : ℕ) (l : List Card) → p < receivers → length l ≤ system_messages → Placed l → Sized (length l) p (index_words l)
index-sized p l h few placed =
    record { size = length-index l few; few = few; place = h; within = rw (start_is (suc p) l h) (sorted-few (suc p) l) }

-- the words have for each receiver the numbers of its cards, and beside them their marks
pub numbers-listed : (p : ℕ) (l : List Card) → p < receivers → numbers_in p (index_words l) ≡ numbers_of (of_place p l)
numbers-listed p l h =
    rw (count-is p l h, start_is p l (omega arith), index_is l, sorted_around receivers p l h)
    (words-run (counts receivers l) (length-counts receivers l) (sorted p l) (of_place p l) (beyond p (receivers - suc p) l))

pub marks_listed : (p : ℕ) (l : List Card) → p < receivers → length l ≤ system_messages → marks_in p (index_words l) ≡ marks_of (of_place p l)
marks_listed p l h few =
    let all : length (sorted receivers l) ≤ system_messages = omega (arith, few, sorted-few receivers l) in
    rw (count-is p l h, start_is p l (omega arith), index_is l, sorted_around receivers p l h)
    (words_marks (counts receivers l) (length-counts receivers l) (sorted p l) (of_place p l) (beyond p (receivers - suc p) l)
    (rw (sorted_around receivers p l h) at all))

first_past : (c : Card) (l : List Card) (r : List ℕ) → Other c l → first_of c.number (numbers_of l ++ (c.number ∷ r)) ≡ length l
unfolding first_of
first_past c [] r h = rw (eq-eqb c.number c.number refl)
first_past c (d ∷ l) r h =
    let (x, y) = both (apart c d) (every (apart c) l) h in
    rw (not-true (eqb d.number c.number) x) (ap suc (first_past c l r y))

-- a card between others --------------------------------------------------------------------------------------------------------------------

-- the cards that stand before it and behind it, receiver by receiver
abbrev front : List Card → Card → List Card → List Card
front a c b = before c.place a b

abbrev back : List Card → Card → List Card → List Card
back a c b = behind receivers c.place a b

module _ (a : List Card) (c : Card) (b : List Card) (own : c.place < receivers) where
  index-with : index_words (a ++ (c ∷ b)) ≡ words_of (counts receivers (a ++ (c ∷ b))) (front a c b ++ (c ∷ back a c b))
  index-with = index_is (a ++ (c ∷ b)) ∙ ap (words_of (counts receivers (a ++ (c ∷ b)))) (sorted-with receivers a c b own)

  index-without : index_words (a ++ b) ≡ words_of (counts receivers (a ++ b)) (front a c b ++ back a c b)
  index-without = index_is (a ++ b) ∙ ap (words_of (counts receivers (a ++ b))) (sorted-without receivers c.place a b own)

  -- the receiver's count, one more and one less
  counted : (x : List ℕ) → x ≡ words_of (counts receivers (a ++ b)) (front a c b ++ (c ∷ back a c b))
      → set x c.place (suc (get_or x c.place 0)) ≡ index_words (a ++ (c ∷ b))
  counted x e =
      let cs : List ℕ = counts receivers (a ++ b) in
      let many : length cs ≡ receivers = length-counts receivers (a ++ b) in
      let l : List Card = front a c b ++ (c ∷ back a c b) in
      let m : get_or (words_of cs l) c.place 0 ≡ length (of_place c.place (a ++ b)) =
      words_count cs many l c.place own ∙ counts-at receivers c.place (a ++ b) own in
      rw (e, m, index-with, counts_with receivers a c b own)
      (words-set cs many l c.place (suc (length (of_place c.place (a ++ b)))) own)

  uncounted : (x : List ℕ) → x ≡ words_of (counts receivers (a ++ (c ∷ b))) (front a c b ++ back a c b)
      → set x c.place (get_or x c.place 0 - 1) ≡ index_words (a ++ b)
  uncounted x e =
      let cs : List ℕ = counts receivers (a ++ (c ∷ b)) in
      let many : length cs ≡ receivers = length-counts receivers (a ++ (c ∷ b)) in
      let l : List Card = front a c b ++ back a c b in
      let m : get_or (words_of cs l) c.place 0 ≡ length (of_place c.place (a ++ (c ∷ b))) =
      words_count cs many l c.place own ∙ counts-at receivers c.place (a ++ (c ∷ b)) own in
      rw (e, m, index-without)
      (words-set cs many l c.place (length (of_place c.place (a ++ (c ∷ b))) - 1) own ∙
      ap (λ (ks : List ℕ). words_of ks l) (counts-without receivers a c b own))

module _ (a : List Card) (c : Card) (b : List Card) (placed : Placed (a ++ (c ∷ b))) (few : length (a ++ (c ∷ b)) ≤ system_messages) where
  abbrev pub position : ℕ
  position = length (sorted c.place (a ++ (c ∷ b))) + length (of_place c.place a)

  own : c.place < receivers
  own = let (_, q) = every-parts fits a (c ∷ b) placed in ltb-true c.place receivers (both (fits c) (every fits b) q).0

  cut : Cut (front a c b) (back a c b) position (length (a ++ b))
  cut =
      let n : length (front a c b ++ (c ∷ back a c b)) ≡ length (a ++ (c ∷ b)) =
      ap length (sym (sorted-with receivers a c b own)) ∙ sorted_all (a ++ (c ∷ b)) placed in
      record {
        first = rw (sorted-below a c b c.place (omega arith)) (length-append (sorted c.place (a ++ b)) (of_place c.place a));
        all = omega (arith, n, length-append (front a c b) (c ∷ back a c b), length_more a c b);
        room = omega (arith, few, length_more a c b);
      }

  abbrev cs : List ℕ
  cs = counts receivers (a ++ (c ∷ b))

  many : length cs ≡ receivers
  many = length-counts receivers (a ++ (c ∷ b))

  pub position-within : position < length (a ++ (c ∷ b))
  position-within = omega (arith, cut.first, cut.all, length_more a c b)

  pub count_some : 1 ≤ get_or (index_words (a ++ (c ∷ b))) c.place 0
  count_some = rw (count-is c.place (a ++ (c ∷ b)) own, of_longer a c b) (omega arith)

  pub number-there : get_or (index_words (a ++ (c ∷ b))) (numbers_from + position) 0 ≡ c.number
  number-there = rw (index-with a c b own) (card_number cut cs many c)

  pub mark-there : get_or (index_words (a ++ (c ∷ b))) (marks_from + position) 0 ≡ c.mark
  mark-there = rw (index-with a c b own) (card_mark cut cs many c)

  pub marks_again : (v : ℕ) → set (index_words (a ++ (c ∷ b))) (marks_from + position) v
      ≡ index_words (a ++ (record { place = c.place; number = c.number; mark = v } ∷ b))
  marks_again v =
      let d : Card = record { place = c.place; number = c.number; mark = v } in
      let same : counts receivers (a ++ (d ∷ b)) ≡ counts receivers (a ++ (c ∷ b)) =
      counts_with receivers a d b own ∙ sym (counts_with receivers a c b own) in
      rw (index-with a c b own, index-with a d b own, same) (card_marked cut cs many c v)

  pub entry-is : Other c a → entry_of c.place c.number (index_words (a ++ (c ∷ b))) ≡ position
  unfolding entry_of
  entry-is other =
      let p : ℕ = c.place in
      let passed = first_past c (of_place p a) (numbers_of (of_place p b)) (of_every (apart c) p a other) in
      let split = map-append (λ (d : Card). d.number) (of_place p a) (c ∷ of_place p b) in
      rw (numbers-listed p (a ++ (c ∷ b)) own, start_is p (a ++ (c ∷ b)) (omega (arith, own)), of_own a c b, split, passed)

  pub withdraws : Other c a → withdrawn (length (a ++ (c ∷ b))) c.place c.number (index_words (a ++ (c ∷ b))) ≡ index_words (a ++ b)
  unfolding withdrawn
  withdraws other =
      let z : length (a ++ (c ∷ b)) - 1 ≡ length (a ++ b) = omega (arith, length_more a c b) in
      rw (entry-is other, z, index-with a c b own) (uncounted a c b own _ (card-taken cut cs many c))

  joins : of_place c.place b ≡ [] → added (length (a ++ b)) c (index_words (a ++ b)) ≡ index_words (a ++ (c ∷ b))
  unfolding added sorted
  joins last =
      let e : sorted (suc c.place) (a ++ b) ≡ before c.place a b = rw (of_append c.place a b, last, append-nil) in
      let at : start_of (suc c.place) (index_words (a ++ b)) ≡ position = start_is (suc c.place) (a ++ b) own ∙ (ap length e ∙ cut.first) in
      rw (at, index-without a c b own) (counted a c b own _ (card-put cut (counts receivers (a ++ b)) (length-counts receivers (a ++ b)) c))

pub adds : (l : List Card) (c : Card) → Placed l → c.place < receivers → length l < system_messages
    → added (length l) c (index_words l) ≡ index_words (l ++ (c ∷ []))
unfolding of_place
adds l c placed h few =
    let one : every fits (c ∷ []) ≡ true = rw (lt-ltb c.place receivers h) in
    let long : length (l ++ (c ∷ [])) ≤ system_messages = omega (arith, length-append l (c ∷ [])) in
    rw (append-nil l) at (joins l c [] (every_append fits l (c ∷ []) placed one) long refl)

-- the test of two indexes ------------------------------------------------------------------------------------------------------------------

pub same-words : (a b : List ℕ) → same a b ≡ true → a ≡ b
unfolding same
same-words [] [] h = refl
same-words [] (y ∷ b) h = clash false h refl
same-words (x ∷ a) [] h = clash false h refl
same-words (x ∷ a) (y ∷ b) h =
    let (p, r) = both (eqb x y) (same a b) h in
    rw (eqb-true x y p, same-words a b r)

pub same-itself : (a : List ℕ) → same a a ≡ true
unfolding same
same-itself [] = refl
same-itself (x ∷ a) = rw (eq-eqb x x refl) (same-itself a)
