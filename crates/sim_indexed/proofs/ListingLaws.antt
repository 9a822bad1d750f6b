-- The index made slot by slot: with the card of the next slot added it is the index of one slot more. So it is made afresh, and so messages that
-- were posted join it.
use Prim.Native.Nat.{ℕ, suc, ◌+◌, ◌-◌, ◌*◌, ◌<◌, ◌≤◌}
use native.Mathlib.Numerals.{add-one}
use native.Mathlib.Omega.{arith}
use mathlib.Core.Path.{◌≡◌, refl, sym, ap, subst, ◌∙◌}
use mathlib.Core.Bool.{Bool, true, false}
use mathlib.Core.List.{List, [], ◌∷◌, ◌++◌, map, map-append}
use lib.Dec.{ltb}
use lib.ListN.{length, take, drop, replicate, length-map, length-append}
use lib.Seq.{take_at}
use borrow.Author.Tests.{ne_eqb, eq-eqb}
use Rattle.ids.specs.Lists.{every}
use Rattle.ids.proofs.ListLaws.{every-parts}
use Rattle.ids.proofs.Choice.{holds}
use Rattle.wire.specs.declared.Message.{Message}
use Rattle.system.specs.Limits.{system_clients, system_servers, system_messages, last_number}
use Rattle.system.specs.Transit.{numbered}
use Rattle.sim_transit.specs.Slots.{transit_size, slot_size, slot_of, slot_at, rows, slots, valid_slots, names}
use Rattle.sim_transit.specs.Calls as transit
use Rattle.sim_transit.proofs.Means as means
use Rattle.sim_transit.proofs.RowsLaws.{rows_split}
use Rattle.sim_transit.proofs.ValidLaws.{slots_next}
use Rattle.sim_transit.proofs.Kept.{length-slots, slots-none, valid-sized, slot_kept}
use Rattle.sim_index.specs.Index.{receivers, index_size, index_words}
use Rattle.sim_index.specs.Calls.{same, added, Sized}
use Rattle.sim_index.specs.declared.Card.{Card}
use Rattle.sim_index.proofs.Means.{Placed, index-sized, index-none, adds}
use Rattle.sim_indexed.specs.Indexed.{indexed_size, table, index, card_of, afresh, valid_indexed}
use Rattle.sim_indexed.specs.Calls.{Few, Valid, Posts, CanPost}
use Rattle.sim_indexed.specs.Inner.{Readable, with_index, Listing, Unlisted}
use Rattle.sim_indexed.proofs.CardLaws.{card_may, kept-placed, slots-placed}
use Rattle.sim_indexed.proofs.IndexedLaws.{Parts, parts, afresh-long, table-first, index-last, joined-valid, joined-messages}
use Rattle.sim_indexed.proofs.IndexedLaws.{lent, back_index, back_table, lent-index, index_back, table-long, index-long}

slots_split : (i k : ℕ) (t : List ℕ) → slots (i + k) t ≡ slots i t ++ slots k (drop (slot_size * i) t)
unfolding slots
slots_split i k t = ap (map slot_of) (rows_split i k t) ∙ map-append slot_of (rows i t) (rows k (drop (slot_size * i) t))

placed-front : (a b : List Card) → Placed (a ++ b) → Placed a
placed-front a b h = (every-parts (λ (c : Card). ltb c.place receivers) a b h).0

-- slot i of a table joins the index of those before it
module _ (i : ℕ) (t : List ℕ) (R : Readable i t) where
  abbrev cards : List Card
  cards = map card_of (slots i t)

  sized : transit.Sized R.len t
  sized = valid-sized R.n R.clients R.sent R.len t R.valid

  counted : length cards ≡ i
  counted = length-map (slots i t) card_of ∙ length-slots i t

  all_placed : Placed cards
  all_placed =
      let z : i + (R.len - i) ≡ R.len = omega (arith, R.used) in
      let all = slots-placed R.n R.clients R.sent R.len t R.few R.valid in
      let split : map card_of (slots R.len t) ≡ cards ++ map card_of (slots (R.len - i) (drop (slot_size * i) t)) =
      subst (λ (k : ℕ). map card_of (slots k t) ≡ cards ++ map card_of (slots (R.len - i) (drop (slot_size * i) t))) z
      (ap (map card_of) (slots_split i (R.len - i) t) ∙ map-append card_of (slots i t) (slots (R.len - i) (drop (slot_size * i) t))) in
      placed-front cards (map card_of (slots (R.len - i) (drop (slot_size * i) t))) (rw split at all)

  its-place : (card_of (slot_at t i)).place < receivers
  its-place =
      kept-placed R.n R.clients R.sent (slot_at t i) R.few
      (slot_kept R.n R.clients R.sent R.len t R.valid i R.used)

  pub add_may : (x : List ℕ) (c : Card) → x ≡ afresh (slots i t) → c ≡ card_of (slot_at t i) → Sized i c.place x × (i < system_messages)
  add_may x c e f =
      let few : length cards ≤ system_messages = omega (arith, counted, sized.few, R.used) in
      (rw (e, f) (rw counted at (index-sized (card_of (slot_at t i)).place cards its-place few all_placed)), omega (arith, sized.few, R.used))

  pub listed_next : (x y : List ℕ) (c : Card) → x ≡ afresh (slots i t) → c ≡ card_of (slot_at t i) → y ≡ added i c x → y ≡ afresh (slots (i + 1) t)
  listed_next x y c e f g =
      let room : length cards < system_messages = omega (arith, counted, sized.few, R.used) in
      let a = adds cards (card_of (slot_at t i)) all_placed its-place room in
      let a' = rw counted at a in
      let s : map card_of (slots (suc i) t) ≡ cards ++ (card_of (slot_at t i) ∷ []) =
      ap (map card_of) (slots_next i t) ∙ map-append card_of (slots i t) (slot_at t i ∷ []) in
      rw add-one (g ∙ (rw (e, f) a' ∙ ap index_words (sym s)))

  pub listed-size : (x y : List ℕ) (c : Card) → x ≡ afresh (slots i t) → c ≡ card_of (slot_at t i) → y ≡ added i c x → length y ≡ length x
  listed-size x y c e f g =
      let a = afresh-long (slots i t) (omega (arith, length-slots i t, sized.few, R.used)) in
      let b = afresh-long (slots (i + 1) t) (omega (arith, length-slots (i + 1) t, sized.few, R.used)) in
      ap length (listed_next x y c e f g) ∙ (b ∙ sym (ap length e ∙ a))

-- the same where the index stands behind the table
module _ (i : ℕ) (t : List ℕ) (L : Listing i t) where
  listing-index : index t ≡ afresh (slots i (table t))
  listing-index = ap index L.listed ∙ index-last (table t) (afresh (slots i (table t))) (table-long t L.size)

  pub slot-may : (c : Card) → c ≡ card_of (slot_at (table t) i) → Sized i c.place (lent t) × (i < system_messages)
  slot-may c f = rw (lent-index t L.size) (add_may i (table t) L.readable (index t) c listing-index f)

  pub slot-listed : (c : Card) (y : List ℕ) → c ≡ card_of (slot_at (table t) i) → y ≡ added i c (lent t)
      → back_index t y ≡ with_index (i + 1) t
  slot-listed c y f g =
      let g' = rw (lent-index t L.size) at g in
      index_back t L.size y ∙ ap (λ (x : List ℕ). table t ++ x) (listed_next i (table t) L.readable (index t) y c listing-index f g')

  pub slot-size : (c : Card) (y : List ℕ) → c ≡ card_of (slot_at (table t) i) → y ≡ added i c (lent t)
      → length (back_index t y) ≡ length t
  slot-size c y f g =
      let g' = rw (lent-index t L.size) at g in
      let s = listed-size i (table t) L.readable (index t) y c listing-index f g' in
      ap length (index_back t L.size y) ∙ omega (arith, length-append (table t) y, table-long t L.size, index-long t L.size, L.size, s)

  pub slot_card : Readable i (table t) × (length (table t) ≡ transit_size) × (i < system_messages)
  slot_card = card_may i (table t) L.readable

-- what `list_slots` knows before slot i: the index is that of the slots before it
pub record Joining (from to : ℕ) (o t : List ℕ) (i : ℕ) : Type 0 where
  pub first : from ≤ i
  pub within : i ≤ to
  pub begun : Unlisted from to o
  pub so_far : t ≡ with_index i o

module _ (from to : ℕ) (o : List ℕ) where
  pub joining-none : Unlisted from to o → Joining from to o o from
  joining-none U = record { first = omega arith; within = U.within; begun = U; so_far = U.listed }

  module _ (t : List ℕ) (i : ℕ) (J : Joining from to o t i) where
    same-table : table t ≡ table o
    same-table = ap table J.so_far ∙ table-first (table o) (afresh (slots i (table o))) (table-long o J.begun.size)

    few : to ≤ system_messages
    few = let U = J.begun in (valid-sized U.n U.clients U.sent to (table o) U.valid).few

    joining-size : length t ≡ indexed_size
    joining-size =
        let l : length (slots i (table o)) ≤ system_messages = omega (arith, length-slots i (table o), few, J.within) in
        let n = length-append (table o) (afresh (slots i (table o))) in
        ap length J.so_far ∙ omega (arith, n, table-long o J.begun.size, afresh-long (slots i (table o)) l)

    pub joining-slot : i < to → Listing i t
    joining-slot h =
        let U = J.begun in
        record {
          readable = rw same-table (record { n = U.n; clients = U.clients; sent = U.sent; len = to; few = U.few; valid = U.valid; used = h });
          size = joining-size;
          listed = rw same-table J.so_far;
        }

    pub joining-more : i < to → (t' : List ℕ) → t' ≡ with_index (i + 1) t → Joining from to o t' (i + 1)
    joining-more h t' e = record { first = omega (arith, J.first); within = omega arith; begun = J.begun; so_far = rw same-table at e }

-- messages posted: the table has them, and then the index
module _ (len sent : ℕ) (l : List Message) (t : List ℕ) (C : CanPost len sent l t) where
  old : Parts C.n C.clients sent len t
  old = parts C.n C.clients sent len t C.valid

  pub post_may : transit.Sized (len + length l) (table t) × (sent + length l ≤ last_number)
  post_may = (record { size = table-long t C.size; few = C.room }, C.numbers)

  module _ (tb : List ℕ) (P : means.Posts len sent l (table t) tb) where
    new : valid_slots C.n C.clients (sent + length l) (len + length l) tb ≡ true
    new = P.valid C.n C.clients old.fit C.named

    tb_long : length tb ≡ transit_size
    tb_long = (valid-sized C.n C.clients (sent + length l) (len + length l) tb new).size

    first-slots : slots len tb ≡ slots len (table t)
    first-slots =
        let e : slots len tb ++ slots (length l) (drop (slot_size * len) tb) ≡ slots len (table t) ++ numbered sent l =
        sym (slots_split len (length l) tb) ∙ P.after in
        sym (take_at (slots len tb) _ len (length-slots len tb)) ∙
        (ap (take len) e ∙ take_at (slots len (table t)) (numbered sent l) len (length-slots len (table t)))

    pub post_unlisted : Unlisted len (len + length l) (back_table t tb)
    post_unlisted =
        let h = table-first tb (index t) tb_long in
        record {
          n = C.n;
          clients = C.clients;
          sent = sent + length l;
          few = C.few;
          valid = rw h new;
          within = omega arith;
          size = omega (arith, length-append tb (index t), tb_long, index-long t C.size);
          listed = rw (h, first-slots) (ap (λ (x : List ℕ). tb ++ x) old.listed);
        }

    module _ (t' : List ℕ) (e : t' ≡ with_index (len + length l) (back_table t tb)) where
      all_listed : t' ≡ tb ++ afresh (slots (len + length l) tb)
      all_listed = rw (table-first tb (index t) tb_long) at e

      pub posts_both : Posts len sent l t t'
      posts_both =
          let new : (n clients : ℕ) → Valid n clients sent len t → every (names n clients) l ≡ true
          → valid_slots n clients (sent + length l) (len + length l) tb ≡ true =
          λ n clients v q. P.valid n clients (parts n clients sent len t v).fit q in
          rw all_listed (record {
            valid = λ n clients F v q. joined-valid n clients (sent + length l) (len + length l) tb _ (new n clients v q) refl;
            after = λ n clients F v q. joined-messages n clients (sent + length l) (len + length l) tb _ (new n clients v q) refl ∙ P.after;
          })

      pub posts_same : length t' ≡ length t
      posts_same =
          let v = joined-valid C.n C.clients (sent + length l) (len + length l) tb _ new refl in
          ap length all_listed ∙ ((parts C.n C.clients (sent + length l) (len + length l) _ v).size ∙ sym C.size)

-- what `valid` knows before slot i: the index made so far is that of the slots before it
pub record Making (n clients sent len : ℕ) (t x : List ℕ) (i : ℕ) : Type 0 where
  pub within : i ≤ len
  pub few : Few n clients
  pub valid : valid_slots n clients sent len t ≡ true
  pub long : index_size ≡ length x
  pub so_far : x ≡ afresh (slots i t)

module _ (n clients sent len : ℕ) (t : List ℕ) where
  pub making_none : (n ≤ system_servers) × (clients ≤ system_clients) → (v : Bool) → v ≡ valid_slots n clients sent len t → v ≡ true
      → Making n clients sent len t (replicate index_size 0) 0
  making_none few v e h =
      record {
        within = omega arith;
        few = record { few_servers = few.0; few_clients = few.1 };
        valid = holds v (valid_slots n clients sent len t) e h;
        long = refl;
        so_far = sym (ap afresh (slots-none t) ∙ index-none);
      }

  module _ (x : List ℕ) (i : ℕ) (M : Making n clients sent len t x i) where
    pub making_all : len ≤ i → x ≡ afresh (slots len t)
    making_all h = let z : i ≡ len = omega (arith, M.within) in rw z at M.so_far

-- the three tests in their order
module _ (n clients sent len : ℕ) (t : List ℕ) where
  pub wrong_size : (length t ≡ indexed_size → ⊥) → false ≡ valid_indexed n clients sent len t
  unfolding valid_indexed
  wrong_size h = rw (ne_eqb (length t) indexed_size h)

  module _ (size : length t ≡ indexed_size) (v : Bool) (e : v ≡ valid_slots n clients sent len (table t)) where
    pub wrong-slots : v ≡ false → false ≡ valid_indexed n clients sent len t
    unfolding valid_indexed
    wrong-slots h = rw (eq-eqb (length t) indexed_size size, ← e, h)

    pub index_decides : v ≡ true → (made : List ℕ) → made ≡ afresh (slots len (table t)) → (r : Bool)
        → r ≡ same (lent t) made → r ≡ valid_indexed n clients sent len t
    unfolding valid_indexed
    index_decides h made m r f = rw (eq-eqb (length t) indexed_size size, ← e, h) (rw (lent-index t size, m) at f)
