-- One slot changed: the messages before it and behind it are as they were, and the numbers still ascend if it keeps its own.
use Prim.Native.Nat.{ℕ, suc, ◌+◌, ◌-◌, ◌*◌, ◌<◌, ◌≤◌}
use native.Mathlib.Numerals.{add-one, add-two, add-three, add-four, add_five, add_six}
use native.Mathlib.Omega.{arith}
use mathlib.Core.Path.{◌≡◌, ap, ◌∙◌}
use mathlib.Core.Bool.{true}
use mathlib.Core.List.{List, [], ◌∷◌, ◌++◌, map, map-append}
use lib.Dec.{eqb}
use lib.ListN.{length, set, take, drop, length-set}
use lib.Seq.{sets, drop-drop, take-set-le, take-set-lt, drop-set-lt, drop-set-add}
use Rattle.ids.specs.Lists.{every}
use Rattle.system.specs.Transit.{InTransit, replaced}
use Rattle.sim_transit.specs.Slots.{slot_of, slot_at, rows, slots, valid_slot, ascending, transit_size, slot_size}
use Rattle.sim_transit.specs.Calls.{Valid, marked, marked_as}
use Rattle.sim_transit.proofs.Means.{Marks}
use Rattle.ids.proofs.Choice.{both}
use Rattle.sim_transit.proofs.RowsLaws.{rows_around, rows_same}
use Rattle.sim_transit.proofs.NumbersLaws.{ascends_changed, replaced-there}
use Rattle.sim_transit.proofs.SlotLaws.{row_seven, slot-marked, marked-valid}
use Rattle.ids.proofs.ListLaws.{every_append, every-parts}
use Rattle.sim_transit.proofs.ValidLaws.{Known, known, known-valid, slots_around, slot_valid_at}
use Rattle.system.specs.Limits.{system_messages}

pub stored_seven : (t : List ℕ) (at a b c d e f g : ℕ) → set
    (set (set (set (set (set (set t at a) (at + 1) b) (at + 2) c) (at + 3) d) (at + 4) e) (at + 5) f) (at + 6) g ≡ sets t at
    (a ∷ (b ∷ (c ∷ (d ∷ (e ∷ (f ∷ (g ∷ [])))))))
stored_seven t at a b c d e f g = rw (add-one, add-two, add-three, add-four, add_five, add_six)

-- one slot changed: the words before it and behind it are as they were
module _ (t t' : List ℕ) (i k : ℕ) (size : length t ≡ transit_size) (size' : length t' ≡ transit_size) (used : i + suc k ≤ system_messages)
    (before : take (slot_size * i) t' ≡ take (slot_size * i) t) (behind : drop (slot_size * suc i) t' ≡ drop (slot_size * suc i) t) where
  pub rows-changed : rows (i + suc k) t' ≡ rows i t ++ (take slot_size (drop (slot_size * i) t') ∷ rows k (drop (slot_size * suc i) t))
  rows-changed = rw (rows_around i k t', rows_same i t' t (omega arith) (omega arith) before, behind)

  pub slots-changed : slots (i + suc k) t' ≡ slots i t ++ (slot_at t' i ∷ slots k (drop (slot_size * suc i) t))
  unfolding slots
  slots-changed = ap (map slot_of) rows-changed ∙ map-append slot_of (rows i t) (take slot_size (drop (slot_size * i) t') ∷ rows k (drop (slot_size * suc i) t))

  rest-changed : drop (slot_size * (i + suc k)) t' ≡ drop (slot_size * (i + suc k)) t
  rest-changed =
      let z : slot_size * (i + suc k) ≡ slot_size * suc i + slot_size * k = omega arith in
      rw (z, ← drop-drop (slot_size * k) (slot_size * suc i) t', ← drop-drop (slot_size * k) (slot_size * suc i) t, behind)

  pub changed-known : (n clients sent : ℕ) → Known n clients sent (i + suc k) t → valid_slot n clients (take slot_size (drop (slot_size * i) t')) ≡ true
      → (slot_at t' i).number ≡ (slot_at t i).number → Known n clients sent (i + suc k) t'
  changed-known n clients sent K v e =
      let f : every (valid_slot n clients) (rows i t ++ (take slot_size (drop (slot_size * i) t) ∷ rows k (drop (slot_size * suc i) t))) ≡ true =
      rw (rows_around i k t) at K.fit in
      let (p, q) = every-parts (valid_slot n clients) (rows i t) (take slot_size (drop (slot_size * i) t) ∷ rows k (drop (slot_size * suc i) t)) f in
      let r = (both (valid_slot n clients (take slot_size (drop (slot_size * i) t))) (every (valid_slot n clients) (rows k (drop (slot_size * suc i) t))) q).1 in
      let q' : every (valid_slot n clients) (take slot_size (drop (slot_size * i) t') ∷ rows k (drop (slot_size * suc i) t)) ≡ true = rw v r in
      let o : ascending 0 sent (slots i t ++ (slot_at t i ∷ slots k (drop (slot_size * suc i) t))) ≡ true = rw (slots_around i k t) at K.ordered in
      record {
        size = size';
        few = used;
        fit = rw rows-changed
            (every_append (valid_slot n clients) (rows i t) (take slot_size (drop (slot_size * i) t') ∷ rows k (drop (slot_size * suc i) t)) p q');
        ordered = rw slots-changed (ascends_changed sent 0 (slots i t) (slot_at t i) (slot_at t' i) (slots k (drop (slot_size * suc i) t)) e o);
        rest = rw rest-changed K.rest;
      }

-- the delivered word of slot i stored anew
module _ (t : List ℕ) (i v : ℕ) where
  pub store-before : take (slot_size * i) (set t (slot_size * i + 1) v) ≡ take (slot_size * i) t
  store-before = take-set-le (slot_size * i) t (slot_size * i + 1) v (omega arith)

  pub store-behind : drop (slot_size * suc i) (set t (slot_size * i + 1) v) ≡ drop (slot_size * suc i) t
  store-behind = drop-set-lt (slot_size * suc i) t (slot_size * i + 1) v (omega arith)

  pub store-here : take slot_size (drop (slot_size * i) (set t (slot_size * i + 1) v)) ≡ set (take slot_size (drop (slot_size * i) t)) 1 v
  store-here = rw (drop-set-add (slot_size * i) t 1 v) (take-set-lt slot_size (drop (slot_size * i) t) 1 v (omega arith))

-- marking: the message stays, delivered or pending
module _ (t : List ℕ) (i v : ℕ) (bit : v ≤ 1) (size : length t ≡ transit_size) (used : i < system_messages) where
  module _ (n clients sent len k : ℕ) (e : len ≡ i + suc k) (ok : Valid n clients sent len t) where
    its-known : Known n clients sent (i + suc k) t
    its-known = rw e at (known n clients sent len t ok)

    its-slot : valid_slot n clients (take slot_size (drop (slot_size * i) t)) ≡ true
    its-slot = slot_valid_at n clients sent len t ok i (omega arith)

    now-slot : slot_at (set t (slot_size * i + 1) v) i ≡ record { number = (slot_at t i).number; delivered = eqb v 1; message = (slot_at t i).message }
    now-slot = ap slot_of (store-here t i v) ∙ slot-marked n clients v (row_seven t i size used)

    marked-known : Valid n clients sent len (set t (slot_size * i + 1) v)
    marked-known =
        let z : valid_slot n clients (take slot_size (drop (slot_size * i) (set t (slot_size * i + 1) v))) ≡ true = rw (store-here t i v)
        (marked-valid n clients v (row_seven t i size used) bit its-slot) in
        let l : length (set t (slot_size * i + 1) v) ≡ transit_size = length-set t (slot_size * i + 1) v ∙ size in
        let K = its-known in
        rw e (known-valid n clients sent (i + suc k) (set t (slot_size * i + 1) v)
        (changed-known t (set t (slot_size * i + 1) v) i k size l K.few (store-before t i v) (store-behind t i v) n clients sent K z
        (ap (λ (x : InTransit). x.number) now-slot)))

    marked-after : slots len (set t (slot_size * i + 1) v) ≡ replaced (slot_at t i).number (marked_as v) (slots len t)
    marked-after =
        let l : length (set t (slot_size * i + 1) v) ≡ transit_size = length-set t (slot_size * i + 1) v ∙ size in
        let K = its-known in
        let o : ascending 0 sent (slots i t ++ (slot_at t i ∷ slots k (drop (slot_size * suc i) t))) ≡ true = rw (slots_around i k t) at K.ordered in
        let p = slots-changed t (set t (slot_size * i + 1) v) i k size l K.few (store-before t i v) (store-behind t i v) in
        let q = replaced-there sent (marked_as v) 0 (slots i t) (slot_at t i) (slots k (drop (slot_size * suc i) t)) o in
        rw (e, p, now-slot, slots_around i k t, q)

  pub marks : Marks i v t (marked i v t)
  marks =
      record {
        valid = λ n clients sent len ok h. marked-known n clients sent len (len - suc i) (omega arith) ok;
        after = λ n clients sent len ok h. marked-after n clients sent len (len - suc i) (omega arith) ok;
      }
