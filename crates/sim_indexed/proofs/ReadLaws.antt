-- One receiver's entries read: those past the last of them are none, and the i-th of them, as the words have it, is the i-th that its messages give.
use Prim.Native.Nat.{ℕ, zero, suc, ◌+◌, ◌-◌, ◌<◌, ◌≤◌}
use native.Mathlib.Omega.{arith}
use mathlib.Core.Path.{◌≡◌, refl, sym, ap, ◌∙◌}
use mathlib.Core.Bool.{Bool, true, false}
use mathlib.Core.List.{List, [], ◌∷◌, ◌++◌, map}
use lib.Dec.{eqb}
use lib.ListN.{length, get_or}
use borrow.Author.Tests.{eq-eqb}
use Rattle.std.specs.Prelude.{if◌then◌else◌, Some, None}
use Rattle.system.specs.Limits.{system_messages}
use Rattle.system.specs.Transit.{InTransit}
use Rattle.system.specs.Index.{Entry, entry_of}
use Rattle.sim_index.specs.Index.{receivers, index_size, of_place, numbers_from, marks_from}
use Rattle.sim_index.specs.Calls.{start_of}
use Rattle.sim_indexed.specs.Indexed.{in_transit, card_of, entries_at, listed_at}
use Rattle.sim_indexed.specs.Calls.{Held}
use Rattle.sim_indexed.specs.Inner.{entry_place}
use Rattle.sim_indexed.proofs.IndexedLaws.{lent, lent-index, lent-long, held-few, entry-number, entry-mark, entry-within}
use Rattle.sim_indexed.proofs.EntriesLaws.{many, begins, Found, found, found-place, first-is, last-is}

entries_many : (p : ℕ) (l : List InTransit) → length (entries_at p l) ≡ many p l
unfolding entries_at of_place
entries_many p [] = refl
entries_many p (x ∷ l) = go (eqb (card_of x).place p) (entries_many p l)
  where
    go : (b : Bool) → length (entries_at p l) ≡ many p l
        → length (if b then entry_of x ∷ entries_at p l else entries_at p l)
        ≡ length (if b then card_of x ∷ of_place p (map card_of l) else of_place p (map card_of l))
    go true e = ap suc e
    go false e = e

listed_past : (l : List Entry) (i : ℕ) → length l ≤ i → None ≡ listed_at l i
unfolding listed_at
listed_past [] i h = refl
listed_past (e ∷ l) zero h = absurd (omega arith)
listed_past (e ∷ l) (suc i) h = listed_past l i (omega arith)

-- behind a, with its own entries
listed-behind : (p : ℕ) (a : List InTransit) (x : InTransit) (b : List InTransit) → (card_of x).place ≡ p
    → listed_at (entries_at p (a ++ (x ∷ b))) (many p a) ≡ Some (record { 0 = x.number }, x.delivered)
unfolding entries_at of_place listed_at
listed-behind p [] x b h = rw (eq-eqb (card_of x).place p h)
listed-behind p (y ∷ a) x b h = go (eqb (card_of y).place p) (listed-behind p a x b h)
  where
    go : (c : Bool) → listed_at (entries_at p (a ++ (x ∷ b))) (many p a) ≡ Some (record { 0 = x.number }, x.delivered)
        → listed_at (if c then entry_of y ∷ entries_at p (a ++ (x ∷ b)) else entries_at p (a ++ (x ∷ b)))
        (length (if c then card_of y ∷ of_place p (map card_of a) else of_place p (map card_of a)))
        ≡ Some (record { 0 = x.number }, x.delivered)
    go true e = e
    go false e = e

module _ (len p : ℕ) (t : List ℕ) (H : Held len t) (there : p < receivers) where
  abbrev messages : List InTransit
  messages = in_transit len t

  -- where they begin and end
  module _ (from end : ℕ) (e : from ≡ start_of p (lent t)) (f : end ≡ start_of (p + 1) (lent t)) where
    first : from ≡ begins p messages
    first = e ∙ first-is len t H p there

    ends : end ≡ from + many p messages
    ends = omega (arith, f, last-is len t H p there, first)

    pub end_after : from ≤ end
    end_after = omega (arith, ends)

    module _ (i : ℕ) where
      pub none-there : end - from ≤ i → None ≡ listed_at (entries_at p messages) i
      none-there h = listed_past (entries_at p messages) i (omega (arith, ends, entries_many p messages))

      module _ (h : i < end - from) where
        its : Found p i messages
        its = found p i messages (omega (arith, ends))

        place_is : from + i ≡ entry_place its.before its.message its.behind
        place_is = omega (arith, first) ∙ found-place its

        pub entry-may : (length (lent t) ≡ index_size) × (from + i < system_messages)
        entry-may =
            let w = entry-within H.n H.clients H.sent len t H.few H.valid its.before its.message its.behind its.whole in
            (lent-long t H.size, omega (arith, place_is, w, held-few H))

        listed : listed_at (entries_at p messages) i ≡ Some (record { 0 = its.message.number }, its.message.delivered)
        listed = rw (← its.whole, its.count) at (listed-behind p its.before its.message its.behind its.place)

        pub entry-there : (number mark : ℕ) → number ≡ get_or (lent t) (numbers_from + (from + i)) 0 → mark ≡ get_or (lent t) (marks_from + (from + i)) 0
            → Some (record { 0 = number }, eqb mark 1) ≡ listed_at (entries_at p messages) i
        entry-there number mark a b =
            let x : InTransit = its.message in
            let k = entry-number H.n H.clients H.sent len t H.few H.valid its.before x its.behind its.whole in
            let m = entry-mark H.n H.clients H.sent len t H.few H.valid its.before x its.behind its.whole in
            let a' : number ≡ x.number = (rw (lent-index t H.size, place_is) at a) ∙ k in
            let b' : mark ≡ (card_of x).mark = (rw (lent-index t H.size, place_is) at b) ∙ m in
            rw (a', b', bit x.delivered) (sym listed)
          where
            bit : (d : Bool) → eqb (if d then 1 else 0) 1 ≡ d
            bit true = refl
            bit false = refl
