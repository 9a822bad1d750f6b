-- One entry's message made pending. The entry tells the message's number and mark: a pending message stays as it is; a delivered one is found by its
-- number, and marked anew at its slot and at its entry.
use Prim.Native.Nat.{ℕ, ◌+◌, ◌<◌, ◌≤◌}
use native.Mathlib.Omega.{arith}
use mathlib.Core.Path.{◌≡◌, refl, sym, ap, ◌∙◌}
use mathlib.Core.Logic.{inl, inr}
use mathlib.Core.Bool.{Bool, true, false}
use mathlib.Core.List.{List, [], ◌∷◌, ◌++◌}
use lib.Dec.{eqb, ltb}
use lib.ListN.{length, get_or, set, length-append}
use borrow.Author.Tests.{eq-eqb, ltb-true, ltb-false}
use Rattle.std.specs.Prelude.{if◌then◌else◌}
use Rattle.ids.proofs.Choice.{decided, Test, clash}
use Rattle.system.specs.Limits.{system_messages}
use Rattle.system.specs.Transit.{InTransit, present}
use Rattle.sim_transit.specs.Slots.{transit_size, slots, slot_at}
use Rattle.sim_transit.specs.Calls as transit
use Rattle.sim_transit.specs.Calls.{Ordered, first_slot, is_numbered, marked, marked_as}
use Rattle.sim_transit.proofs.Means.{FindsPresent}
use Rattle.sim_transit.proofs.FindLaws.{finds_present, valid-ordered}
use Rattle.sim_transit.proofs.Kept.{valid-sized}
use Rattle.sim_index.specs.Index.{index_size, numbers_from, marks_from}
use Rattle.sim_indexed.specs.Indexed.{indexed_size, table, index, in_transit, mark_of}
use Rattle.sim_indexed.specs.Calls.{Few, Valid}
use Rattle.sim_indexed.specs.Inner.{EntryAt, Pends, entry_place}
use Rattle.sim_indexed.proofs.IndexedLaws.{Parts, parts, lent, back_index, back_table}
use Rattle.sim_indexed.proofs.IndexedLaws.{lent-index, lent-long, table-long, index_back, same-table, both-back}
use Rattle.sim_indexed.proofs.IndexedLaws.{entry-within, entry-number, entry-mark, remarked-valid, remarked-after}

present-there : (a : List InTransit) (x : InTransit) (b : List InTransit) → present x.number (a ++ (x ∷ b)) ≡ true
present-there [] x b = rw (eq-eqb x.number x.number refl)
present-there (y ∷ a) x b = go (eqb y.number x.number) (present-there a x b)
  where
    go : (c : Bool) → present x.number (a ++ (x ∷ b)) ≡ true → (if c then true else present x.number (a ++ (x ∷ b))) ≡ true
    go true e = refl
    go false e = e

-- a message that is pending already
not_marked : (x : InTransit) (b : List InTransit) → mark_of x ≡ 0 → x ∷ b ≡ marked_as 0 x ++ b
not_marked x b e = ap (λ (y : InTransit). y ∷ b) (λ i. record { number = x.number; delivered = go x.delivered e i; message = x.message })
  where
    go : (d : Bool) → ◌≡◌ {A = ℕ} (if d then 1 else 0) 0 → d ≡ false
    go true e = absurd (omega (arith, e))
    go false e = refl

module _ (len at : ℕ) (t : List ℕ) (E : EntryAt len at t) where
  its-parts : Parts E.n E.clients E.sent len t
  its-parts = parts E.n E.clients E.sent len t E.valid

  its-size : length t ≡ indexed_size
  its-size = its-parts.size

  its-sized : transit.Sized len (table t)
  its-sized = valid-sized E.n E.clients E.sent len (table t) its-parts.fit

  -- the parts that are lent end within t
  pub index-inside : indexed_size ≤ length t
  index-inside = omega (arith, its-size)

  pub table-inside : transit_size ≤ length t
  table-inside = omega (arith, its-size)

  pub still-inside : (y : List ℕ) → transit_size ≤ length (back_index t y)
  still-inside y = rw (index_back t its-size y) (omega (arith, length-append (table t) y, table-long t its-size))

  pub entry-may : (length (lent t) ≡ index_size) × (at < system_messages)
  entry-may =
      let w = entry-within E.n E.clients E.sent len t E.few E.valid E.before E.message E.behind E.whole in
      (lent-long t its-size, omega (arith, w, E.here, its-sized.few))

  pub find_may : transit.Sized len (table t) × Ordered len (table t)
  find_may = (its-sized, valid-ordered E.n E.clients E.sent len (table t) its-parts.fit)

  -- the message is pending already
  pub pends_none : (v : ℕ) → v ≡ get_or (lent t) (marks_from + at) 0 → v ≡ 0 → Pends len at t t
  pends_none v e z = record {
    valid = λ n clients sent F ok. ok;
    after = λ n clients sent F ok a x b whole here.
        let m : v ≡ mark_of x = e ∙ (rw (lent-index t its-size, here) (entry-mark n clients sent len t F ok a x b whole)) in
        whole ∙ ap (λ (l : List InTransit). a ++ l) (not_marked x b (sym m ∙ z));
  }

-- what is known when slot i is found: it has the entry's number
pub record Looked (len at : ℕ) (t : List ℕ) (i : ℕ) : Type 0 where
  pub entry : EntryAt len at t
  pub number : ℕ
  pub read : number ≡ get_or (lent t) (numbers_from + at) 0
  pub slot : i ≡ first_slot (is_numbered number) (slots len (table t))

module _ {len at : ℕ} {t : List ℕ} {i : ℕ} (S : Looked len at t i) where
  size : length t ≡ indexed_size
  size = its-size len at t S.entry

  finds : FindsPresent S.number len (table t) i
  finds = finds_present S.number len (table t) i S.slot

  -- slot and entry marked
  abbrev remarked : List ℕ
  remarked = marked i 0 (table t) ++ set (index t) (marks_from + at) 0

  -- the entry is x's, whoever says so
  module _ (n clients sent : ℕ) (F : Few n clients) (ok : Valid n clients sent len t)
      (a : List InTransit) (x : InTransit) (b : List InTransit) (whole : in_transit len t ≡ a ++ (x ∷ b)) (here : at ≡ entry_place a x b) where
    number_is : S.number ≡ x.number
    number_is = S.read ∙ (rw (lent-index t size, here) (entry-number n clients sent len t F ok a x b whole))

    used : i < len
    used = by_test (decided (ltb i len))
      where
        by_test : Test (ltb i len) → i < len
        by_test (inl e) = ltb-true i len e
        by_test (inr e) =
            let z : i ≡ len = omega (arith, finds.within, ltb-false i len e) in
            let p : present S.number (slots len (table t)) ≡ true = rw (number_is, whole) (present-there a x b) in
            clash (present S.number (slots len (table t))) p (finds.missing z)

    same_number : (slot_at (table t) i).number ≡ x.number
    same_number = finds.numbered used ∙ number_is

    it_valid : Valid n clients sent len remarked
    it_valid = rw here (remarked-valid n clients sent len t F ok a x b whole 0 (omega arith) i used same_number)

    it_pends : in_transit len remarked ≡ a ++ (marked_as 0 x ++ b)
    it_pends = rw here (remarked-after n clients sent len t F ok a x b whole 0 (omega arith) i used same_number)

  still-valid : (n clients sent : ℕ) → Few n clients → Valid n clients sent len t → Valid n clients sent len remarked
  still-valid n clients sent F ok = let E = S.entry in it_valid n clients sent F ok E.before E.message E.behind E.whole E.here

  -- the index marked, as the code has it
  module _ {y : List ℕ} (ey : y ≡ set (lent t) (marks_from + at) 0) where
    abbrev lent-table : List ℕ
    lent-table = table (back_index t y)

    pub slot-may : (length lent-table ≡ transit_size) × (i < system_messages)
    slot-may =
        let E = S.entry in
        let h = used E.n E.clients E.sent E.few E.valid E.before E.message E.behind E.whole E.here in
        let l : length lent-table ≡ transit_size = ap length (same-table t size y) ∙ table-long t size in
        (l, omega (arith, h, (its-sized len at t E).few))

    -- and then the table
    module _ {tb : List ℕ} (eb : tb ≡ marked i 0 lent-table) where
      abbrev back : List ℕ
      back = back_table (back_index t y) tb

      back_is : back ≡ remarked
      back_is = both-back t size y tb ∙ rw (eb, ey, same-table t size (set (lent t) (marks_from + at) 0), lent-index t size)

      pub pends_size : length back ≡ length t
      pends_size =
          let E = S.entry in
          let v = still-valid E.n E.clients E.sent E.few E.valid in
          ap length back_is ∙ ((parts E.n E.clients E.sent len remarked v).size ∙ sym size)

      pub pends : Pends len at t back
      pends = rw back_is (record { valid = still-valid; after = it_pends })
