-- One message marked or removed: its card says where its entry is, the index and then the table are lent, and both come back changed.
use Prim.Native.Nat.{ℕ, suc, ◌+◌, ◌-◌, ◌*◌, ◌<◌, ◌≤◌}
use native.Mathlib.Omega.{arith}
use mathlib.Core.Path.{◌≡◌, refl, sym, ap, ◌∙◌}
use mathlib.Core.List.{List, ◌∷◌, ◌++◌}
use lib.ListN.{length, get_or, set, drop}
use Rattle.system.specs.Limits.{system_messages}
use Rattle.system.specs.Transit.{InTransit, replaced, gone, keeping}
use Rattle.sim_transit.specs.Slots.{transit_size, slot_size, slots}
use Rattle.sim_transit.specs.Calls as transit
use Rattle.sim_transit.proofs.Kept.{valid-sized, slot_kept}
use Rattle.sim_index.specs.Index.{index_size, marks_from}
use Rattle.sim_index.specs.Calls.{entry_of, withdrawn, Sized}
use Rattle.sim_index.specs.declared.Card.{Card}
use Rattle.sim_indexed.specs.Indexed.{table, index, in_transit, slot_in, card_of}
use Rattle.sim_indexed.specs.Calls.{Few, Valid, Held, Marks, Removes}
use Rattle.sim_indexed.specs.Inner.{Readable, entry_place}
use Rattle.sim_indexed.proofs.CardLaws.{card_may, kept-placed}
use Rattle.sim_indexed.proofs.IndexedLaws.{parts, held-parts, held-few, table-long, lent-index, lent-long}
use Rattle.sim_indexed.proofs.IndexedLaws.{lent, back_index, back_table, same-table, both-back}
use Rattle.sim_indexed.proofs.IndexedLaws.{index-its, around, replaces, entry-within, entry_found, entry-counted}
use Rattle.sim_indexed.proofs.IndexedLaws.{remarked-valid, remarked-after, removed-valid, removed-after}

module _ (len i : ℕ) (t : List ℕ) (H : Held len t) (used : i < len) where
  abbrev message : InTransit
  message = slot_in t i

  abbrev before : List InTransit
  before = slots i (table t)

  abbrev behind : List InTransit
  behind = slots (len - suc i) (drop (slot_size * suc i) (table t))

  abbrev entry : ℕ
  entry = entry_of (card_of message).place message.number (index t)

  pub change_card : Readable i (table t) × (length (table t) ≡ transit_size) × (i < system_messages)
  change_card =
      card_may i (table t)
      (record { n = H.n; clients = H.clients; sent = H.sent; len = len; few = H.few; valid = (held-parts H).fit; used = used })

  sized : Sized len (card_of message).place (index t)
  sized =
      index-its H.n H.clients H.sent len t H.few H.valid (card_of message).place
      (kept-placed H.n H.clients H.sent message H.few (slot_kept H.n H.clients H.sent len (table t) (held-parts H).fit i used))

  -- the words afterwards
  abbrev marked-words : List ℕ
  marked-words = transit.marked i 1 (table t) ++ set (index t) (marks_from + entry) 1

  abbrev less_words : List ℕ
  less_words = transit.removed len i (table t) ++ withdrawn len (card_of message).place message.number (index t)

  module _ (n clients sent : ℕ) (F : Few n clients) (ok : Valid n clients sent len t) where
    split : in_transit len t ≡ before ++ (message ∷ behind)
    split = around n clients sent len t F ok i used

    entry-is : entry ≡ entry_place before message behind
    entry-is = entry_found n clients sent len t F ok before message behind split

    within : entry < len
    within = omega (arith, entry-is, entry-within n clients sent len t F ok before message behind split)

    counted : 1 ≤ get_or (index t) (card_of message).place 0
    counted = entry-counted n clients sent len t F ok before message behind split

    marks_valid : Valid n clients sent len marked-words
    marks_valid = rw entry-is (remarked-valid n clients sent len t F ok before message behind split 1 (omega arith) i used refl)

    marks_after : in_transit len marked-words ≡ replaced message.number keeping (in_transit len t)
    marks_after =
        rw entry-is (remarked-after n clients sent len t F ok before message behind split 1 (omega arith) i used refl) ∙
        sym (replaces n clients sent len t F ok i used keeping)

    removes_valid : Valid n clients sent (len - 1) less_words
    removes_valid = removed-valid n clients sent len t F ok before message behind split i used refl

    removes_after : in_transit (len - 1) less_words ≡ replaced message.number gone (in_transit len t)
    removes_after =
        removed-after n clients sent len t F ok before message behind split i used refl ∙
        sym (replaces n clients sent len t F ok i used gone)

  -- its card is read
  module _ (c : Card) (e : c ≡ card_of message) where
    pub change_sized : Sized len c.place (lent t)
    change_sized = rw (lent-index t H.size, e) sized

    -- marked: the entry is found
    module _ (at : ℕ) (f : at ≡ entry_of c.place c.number (lent t)) where
      at-is : at ≡ entry
      at-is = rw (lent-index t H.size, e) at f

      pub mark-entry : (length (lent t) ≡ index_size) × (at < system_messages)
      mark-entry = (lent-long t H.size, omega (arith, at-is, within H.n H.clients H.sent H.few H.valid, held-few H))

      module _ (x : List ℕ) (g : x ≡ set (lent t) (marks_from + at) 1) where
        pub mark-slot : (length (table (back_index t x)) ≡ transit_size) × (i < system_messages)
        mark-slot = (rw (same-table t H.size x) (table-long t H.size), omega (arith, held-few H))

        module _ (tb : List ℕ) (h : tb ≡ transit.marked i 1 (table (back_index t x))) where
          marked-is : back_table (back_index t x) tb ≡ marked-words
          marked-is =
              let g' = rw (lent-index t H.size, at-is) at g in
              let h' = rw (same-table t H.size x) at h in
              both-back t H.size x tb ∙ rw (h', g')

          pub marks_both : Marks len i t (back_table (back_index t x) tb)
          marks_both = rw marked-is (record { valid = marks_valid; after = marks_after })

          pub marks_same : length (back_table (back_index t x) tb) ≡ length t
          marks_same =
              let v = marks_valid H.n H.clients H.sent H.few H.valid in
              ap length marked-is ∙ ((parts H.n H.clients H.sent len _ v).size ∙ sym H.size)

    -- removed: the entry is withdrawn
    pub withdraw_may : Sized len c.place (lent t) × (entry_of c.place c.number (lent t) < len) × (1 ≤ get_or (lent t) c.place 0)
    withdraw_may =
        rw (lent-index t H.size, e)
        (sized, within H.n H.clients H.sent H.few H.valid, counted H.n H.clients H.sent H.few H.valid)

    module _ (x : List ℕ) (g : x ≡ withdrawn len c.place c.number (lent t)) where
      pub remove_slot : transit.Sized len (table (back_index t x)) × (i < len)
      remove_slot = (rw (same-table t H.size x) (valid-sized H.n H.clients H.sent len (table t) (held-parts H).fit), used)

      module _ (tb : List ℕ) (h : tb ≡ transit.removed len i (table (back_index t x))) where
        less_is : back_table (back_index t x) tb ≡ less_words
        less_is =
            let g' = rw (lent-index t H.size, e) at g in
            let h' = rw (same-table t H.size x) at h in
            both-back t H.size x tb ∙ rw (h', g')

        pub removes_both : Removes len i t (back_table (back_index t x) tb)
        removes_both = rw less_is (record { valid = removes_valid; after = removes_after })

        pub removes_same : length (back_table (back_index t x) tb) ≡ length t
        removes_same =
            let v = removes_valid H.n H.clients H.sent H.few H.valid in
            ap length less_is ∙ ((parts H.n H.clients H.sent (len - 1) _ v).size ∙ sym H.size)
