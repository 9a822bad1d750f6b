-- The table and the index side by side. Words are valid if the slots are and the index is theirs; one message changed is one card changed, between
-- the same neighbours, so that the index made afresh differs in that card alone.
use Prim.Native.Nat.{ℕ, zero, suc, ◌+◌, ◌-◌, ◌*◌, ◌<◌, ◌≤◌}
use native.Mathlib.Omega.{arith}
use mathlib.Core.Path.{◌≡◌, refl, sym, ap, subst, ◌∙◌}
use mathlib.Core.Bool.{true, ◌&&◌}
use mathlib.Core.List.{List, [], ◌∷◌, ◌++◌, map, map-append, append-nil}
use lib.Dec.{eqb}
use lib.ListN.{length, get_or, set, take, drop, length-map, length-append, length-drop}
use lib.Seq.{take_at, drop_at, take_all, drop-length, length-take-le}
use borrow.Author.Tests.{eqb-true, eq-eqb, ne_eqb}
use borrow.Rule.Slice.PartMut.{put_mid}
use Rattle.ids.proofs.Choice.{both}
use Rattle.system.specs.Limits.{system_messages}
use Rattle.system.specs.Transit.{InTransit, replaced, gone}
use Rattle.sim_transit.specs.Slots.{transit_size, slot_size, slots, valid_slots, ascending}
use Rattle.sim_transit.specs.Calls.{marked, marked_as, removed}
use Rattle.sim_transit.proofs.Means.{Marks, Removes}
use Rattle.sim_transit.proofs.NumbersLaws.{rising, ascends_past, replaced-there}
use Rattle.sim_transit.proofs.ValidLaws.{known, slots_around}
use Rattle.sim_transit.proofs.ChangeLaws.{marks}
use Rattle.sim_transit.proofs.RemoveLaws.{removes}
use Rattle.sim_transit.proofs.Kept.{length-slots, valid-sized}
use Rattle.sim_index.specs.Index.{receivers, index_size, index_words, numbers_from, marks_from, sorted, of_place}
use Rattle.sim_index.specs.Calls.{same, entry_of, withdrawn, Sized}
use Rattle.sim_index.specs.declared.Card.{Card}
use Rattle.sim_index.proofs.Means.{Placed, Other, length-index, index-sized, same-words, same-itself}
use Rattle.sim_index.proofs.Means.{position-within, count_some, number-there, mark-there, entry-is, withdraws, marks_again}
use Rattle.sim_indexed.specs.Indexed.{indexed_size, table, index, in_transit, slot_in, card_of, afresh, valid_indexed}
use Rattle.sim_indexed.specs.Calls.{Few, Valid, Held}
use Rattle.sim_indexed.specs.Inner.{entry_place}
use Rattle.sim_indexed.proofs.CardLaws.{slots-placed}

-- the two parts ---------------------------------------------------------------------------------------------------------------

pub record Parts (n clients sent len : ℕ) (t : List ℕ) : Type 0 where
  pub size : length t ≡ indexed_size
  pub fit : valid_slots n clients sent len (table t) ≡ true
  pub listed : index t ≡ afresh (slots len (table t))

pub parts : (n clients sent len : ℕ) (t : List ℕ) → Valid n clients sent len t → Parts n clients sent len t
unfolding valid_indexed
parts n clients sent len t e =
    let (a, c) = both (eqb (length t) indexed_size && valid_slots n clients sent len (table t)) (same (index t) (afresh (slots len (table t)))) e in
    let (l, f) = both (eqb (length t) indexed_size) (valid_slots n clients sent len (table t)) a in
    record { size = eqb-true (length t) indexed_size l; fit = f; listed = same-words (index t) (afresh (slots len (table t))) c }

pub from_parts : (n clients sent len : ℕ) (t : List ℕ) → Parts n clients sent len t → Valid n clients sent len t
unfolding valid_indexed
from_parts n clients sent len t P = rw (eq-eqb (length t) indexed_size P.size, P.fit, P.listed) (same-itself (afresh (slots len (table t))))

pub afresh-long : (l : List InTransit) → length l ≤ system_messages → length (afresh l) ≡ index_size
afresh-long l h = length-index (map card_of l) (omega (arith, length-map l card_of))

-- a table with its index behind it
module _ (tb x : List ℕ) (long : length tb ≡ transit_size) where
  pub table-first : table (tb ++ x) ≡ tb
  table-first = take_at tb x transit_size long

  pub index-last : index (tb ++ x) ≡ x
  index-last = drop_at tb x transit_size long

module _ (n clients sent len : ℕ) (tb x : List ℕ) (ok : valid_slots n clients sent len tb ≡ true) (is : x ≡ afresh (slots len tb)) where
  tb_long : length tb ≡ transit_size
  tb_long = (valid-sized n clients sent len tb ok).size

  pub joined-valid : Valid n clients sent len (tb ++ x)
  joined-valid =
      let few : length (slots len tb) ≤ system_messages = omega (arith, length-slots len tb, (valid-sized n clients sent len tb ok).few) in
      let long : length x ≡ index_size = ap length is ∙ afresh-long (slots len tb) few in
      from_parts n clients sent len (tb ++ x) (record {
        size = omega (arith, length-append tb x, tb_long, long);
        fit = rw (table-first tb x tb_long) ok;
        listed = rw (table-first tb x tb_long, index-last tb x tb_long) is;
      })

  pub joined-messages : in_transit len (tb ++ x) ≡ slots len tb
  joined-messages = ap (slots len) (table-first tb x tb_long)

-- the index as it is lent, and the words when another index or another table is back
abbrev pub lent : List ℕ → List ℕ
lent t = take (indexed_size - transit_size) (drop transit_size t)

abbrev pub back_index : List ℕ → List ℕ → List ℕ
back_index t x = put_mid transit_size (indexed_size - transit_size) t x

abbrev pub back_table : List ℕ → List ℕ → List ℕ
back_table t tb = put_mid 0 (transit_size - 0) t tb

module _ (t : List ℕ) (size : length t ≡ indexed_size) where
  pub table-long : length (table t) ≡ transit_size
  table-long = length-take-le transit_size t (omega arith)

  pub index-long : length (index t) ≡ index_size
  index-long = omega (arith, length-drop transit_size t)

  pub lent-index : lent t ≡ index t
  lent-index = take_all index_size (drop transit_size t) (omega (arith, length-drop transit_size t))

  pub lent-long : length (lent t) ≡ index_size
  lent-long = ap length lent-index ∙ index-long

  module _ (x : List ℕ) where
    pub index_back : back_index t x ≡ table t ++ x
    index_back =
        let none : drop index_size (drop transit_size t) ≡ [] = nothing (drop transit_size t) (omega (arith, length-drop transit_size t)) in
        ap (λ (l : List ℕ). table t ++ (x ++ l)) none ∙ ap (λ (l : List ℕ). table t ++ l) (append-nil x)
      where
        nothing : (l : List ℕ) → length l ≡ index_size → drop index_size l ≡ []
        nothing l e = ap (λ (k : ℕ). drop k l) (sym e) ∙ drop-length l

    pub same-table : table (back_index t x) ≡ table t
    same-table = ap table index_back ∙ table-first (table t) x table-long

    pub both-back : (tb : List ℕ) → back_table (back_index t x) tb ≡ tb ++ x
    both-back tb = ap (λ (l : List ℕ). tb ++ l) (ap index index_back ∙ index-last (table t) x table-long)

-- one message between the others ---------------------------------------------------------------------------------------------

pub cards_around : (a : List InTransit) (x : InTransit) (b : List InTransit) → map card_of (a ++ (x ∷ b)) ≡ map card_of a ++ (card_of x ∷ map card_of b)
cards_around a x b = map-append card_of a (x ∷ b)

others-before : (sent last : ℕ) (a : List InTransit) (x : InTransit) (b : List InTransit) → ascending last sent (a ++ (x ∷ b)) ≡ true
    → Other (card_of x) (map card_of a)
others-before sent last [] x b e = refl
others-before sent last (y ∷ a) x b e =
    let r = rising sent last y (a ++ (x ∷ b)) e in
    let p : y.number < x.number = ascends_past sent y.number a x b r.others in
    rw (ne_eqb y.number x.number (omega (arith, p))) (others-before sent y.number a x b r.others)

module _ (n clients sent len : ℕ) (t : List ℕ) (F : Few n clients) (ok : Valid n clients sent len t) where
  abbrev its : Parts n clients sent len t
  its = parts n clients sent len t ok

  pub its-few : len ≤ system_messages
  its-few = (valid-sized n clients sent len (table t) its.fit).few

  pub its-placed : Placed (map card_of (slots len (table t)))
  its-placed = slots-placed n clients sent len (table t) F its.fit

  its-count : length (map card_of (slots len (table t))) ≡ len
  its-count = length-map (slots len (table t)) card_of ∙ length-slots len (table t)

  pub index-its : (p : ℕ) → p < receivers → Sized len p (index t)
  index-its p h =
      let s = index-sized p (map card_of (slots len (table t))) h (omega (arith, its-count, its-few)) its-placed in
      rw its.listed (rw its-count at s)

  -- x is one of them
  module _ (a : List InTransit) (x : InTransit) (b : List InTransit) (whole : slots len (table t) ≡ a ++ (x ∷ b)) where
    abbrev ca : List Card
    ca = map card_of a

    abbrev cb : List Card
    cb = map card_of b

    cards : map card_of (slots len (table t)) ≡ ca ++ (card_of x ∷ cb)
    cards = ap (map card_of) whole ∙ cards_around a x b

    placed : Placed (ca ++ (card_of x ∷ cb))
    placed = rw cards at its-placed

    count : length (ca ++ (card_of x ∷ cb)) ≡ len
    count = ap length (sym cards) ∙ its-count

    few : length (ca ++ (card_of x ∷ cb)) ≤ system_messages
    few = omega (arith, count, its-few)

    words : index t ≡ index_words (ca ++ (card_of x ∷ cb))
    words = its.listed ∙ ap index_words cards

    place_is : entry_place a x b ≡ length (sorted (card_of x).place (ca ++ (card_of x ∷ cb))) + length (of_place (card_of x).place ca)
    place_is = ap (λ (l : List Card). length (sorted (card_of x).place l) + length (of_place (card_of x).place ca)) (cards_around a x b)

    ordered : ascending 0 sent (a ++ (x ∷ b)) ≡ true
    ordered = rw whole at (known n clients sent len (table t) its.fit).ordered

    pub entry-within : entry_place a x b < len
    entry-within = omega (arith, place_is, position-within ca (card_of x) cb placed few, count)

    pub entry-number : get_or (index t) (numbers_from + entry_place a x b) 0 ≡ x.number
    entry-number = rw (words, place_is) (number-there ca (card_of x) cb placed few)

    pub entry-mark : get_or (index t) (marks_from + entry_place a x b) 0 ≡ (card_of x).mark
    entry-mark = rw (words, place_is) (mark-there ca (card_of x) cb placed few)

    pub entry_found : entry_of (card_of x).place x.number (index t) ≡ entry_place a x b
    entry_found = rw (words, place_is) (entry-is ca (card_of x) cb placed few (others-before sent 0 a x b ordered))

    pub entry-counted : 1 ≤ get_or (index t) (card_of x).place 0
    entry-counted = rw words (count_some ca (card_of x) cb placed few)

    -- it is marked anew, at its slot and at its entry
    module _ (v : ℕ) (bit : v ≤ 1) (i : ℕ) (used : i < len) (here : (slot_in t i).number ≡ x.number) where
      abbrev marked-index : List ℕ
      marked-index = set (index t) (marks_from + entry_place a x b) v

      abbrev anew : ℕ → InTransit
      anew v = record { number = x.number; delivered = eqb v 1; message = x.message }

      abbrev card_anew : ℕ → Card
      card_anew v = record { place = (card_of x).place; number = x.number; mark = v }

      marks_slot : Marks i v (table t) (marked i v (table t))
      marks_slot = marks (table t) i v bit (valid-sized n clients sent len (table t) its.fit).size (omega (arith, its-few))

      messages : slots len (marked i v (table t)) ≡ a ++ (marked_as v x ++ b)
      messages = marks_slot.after n clients sent len its.fit used ∙ (rw (here, whole) (replaced-there sent (marked_as v) 0 a x b ordered))

      bit-mark : card_of (anew v) ≡ card_anew v
      bit-mark = go v bit
        where
          go : (v : ℕ) → v ≤ 1 → card_of (anew v) ≡ card_anew v
          go zero h = refl
          go (suc zero) h = refl
          go (suc (suc k)) h = absurd (omega arith)

      marked-words : marked-index ≡ afresh (slots len (marked i v (table t)))
      marked-words =
          let e : map card_of (slots len (marked i v (table t))) ≡ ca ++ (card_anew v ∷ cb) =
          ap (map card_of) messages ∙ (cards_around a (anew v) b ∙ ap (λ (c : Card). ca ++ (c ∷ cb)) bit-mark) in
          rw (words, place_is) (marks_again ca (card_of x) cb placed few v) ∙ ap index_words (sym e)

      still_fit : valid_slots n clients sent len (marked i v (table t)) ≡ true
      still_fit = marks_slot.valid n clients sent len its.fit used

      pub remarked-valid : Valid n clients sent len (marked i v (table t) ++ marked-index)
      remarked-valid = joined-valid n clients sent len (marked i v (table t)) marked-index still_fit marked-words

      pub remarked-after : in_transit len (marked i v (table t) ++ marked-index) ≡ a ++ (marked_as v x ++ b)
      remarked-after = joined-messages n clients sent len (marked i v (table t)) marked-index still_fit marked-words ∙ messages

    -- it is gone, from its slot and from its entry
    module _ (i : ℕ) (used : i < len) (here : (slot_in t i).number ≡ x.number) where
      abbrev less_index : List ℕ
      less_index = withdrawn len (card_of x).place x.number (index t)

      removes_slot : Removes len i (table t) (removed len i (table t))
      removes_slot = removes (table t) len i (valid-sized n clients sent len (table t) its.fit).size its-few used

      left : slots (len - 1) (removed len i (table t)) ≡ a ++ b
      left = removes_slot.after n clients sent its.fit ∙ (rw (here, whole) (replaced-there sent gone 0 a x b ordered))

      less_words : less_index ≡ afresh (slots (len - 1) (removed len i (table t)))
      less_words =
          let w = withdraws ca (card_of x) cb placed few (others-before sent 0 a x b ordered) in
          let w' : less_index ≡ index_words (ca ++ cb) = rw words (rw count at w) in
          w' ∙ ap index_words (sym (ap (map card_of) left ∙ map-append card_of a b))

      less_fit : valid_slots n clients sent (len - 1) (removed len i (table t)) ≡ true
      less_fit = removes_slot.valid n clients sent its.fit

      pub removed-valid : Valid n clients sent (len - 1) (removed len i (table t) ++ less_index)
      removed-valid = joined-valid n clients sent (len - 1) (removed len i (table t)) less_index less_fit less_words

      pub removed-after : in_transit (len - 1) (removed len i (table t) ++ less_index) ≡ a ++ b
      removed-after = joined-messages n clients sent (len - 1) (removed len i (table t)) less_index less_fit less_words ∙ left

  -- slot i is one of them
  module _ (i : ℕ) (h : i < len) where
    abbrev before : List InTransit
    before = slots i (table t)

    abbrev behind : List InTransit
    behind = slots (len - suc i) (drop (slot_size * suc i) (table t))

    pub around : slots len (table t) ≡ before ++ (slot_in t i ∷ behind)
    around =
        let z : i + suc (len - suc i) ≡ len = omega arith in
        subst (λ (k : ℕ). slots k (table t) ≡ before ++ (slot_in t i ∷ behind)) z (slots_around i (len - suc i) (table t))

    pub replaces : (f : InTransit → List InTransit) → replaced (slot_in t i).number f (slots len (table t)) ≡ before ++ (f (slot_in t i) ++ behind)
    replaces f = rw around (replaced-there sent f 0 before (slot_in t i) behind (ordered before (slot_in t i) behind around))

-- the words that a call may have -----------------------------------------------------------------------------------------------

module _ {len : ℕ} {t : List ℕ} (H : Held len t) where
  pub held-parts : Parts H.n H.clients H.sent len t
  held-parts = parts H.n H.clients H.sent len t H.valid

  pub held-few : len ≤ system_messages
  held-few = its-few H.n H.clients H.sent len t H.few H.valid
