-- The words of all slots: what the test of them says, and how the code's loops make it, slot by slot.
use Prim.Native.Nat.{ℕ, zero, suc, ◌+◌, ◌-◌, ◌*◌, ◌<◌, ◌≤◌}
use native.Mathlib.Omega.{arith}
use mathlib.Core.Path.{◌≡◌, refl, sym, ap, ◌∙◌}
use mathlib.Core.Bool.{Bool, true, false, ◌&&◌}
use mathlib.Core.List.{List, [], ◌∷◌, ◌++◌, map, map-append}
use lib.Dec.{eqb, leb}
use lib.ListN.{length, get_or, take, drop}
use lib.Seq.{drop-drop}
use borrow.Author.Tests.{lt-ltb, le-ltb, le-leb, lt-leb, leb-true, eqb-true, ne_eqb}
use Rattle.ids.proofs.ListLaws.{every-parts}
use Rattle.ids.proofs.Choice.{both}
use Rattle.std.specs.List.{list_all, range_with_len}
use Rattle.ids.specs.Lists.{every}
use Rattle.sim_transit.specs.Slots.{slot_of, slot_at, rows, slots, valid_slot, ascending, valid_slots, transit_size, slot_size}
use Rattle.sim_transit.proofs.RowsLaws.{rows_around, rows_next, rows_same}
use Rattle.sim_transit.specs.Calls.{message_at, Valid}
use Rattle.sim_transit.proofs.SlotLaws.{number_at, slot_fitting, fitting_message, message-words}
use Rattle.words.specs.Messages.{message_in, message_or}
use Rattle.wire.specs.declared.Message.{Message}
use Rattle.system.specs.Limits.{system_messages}

-- what the test says
pub record Known (n clients sent len : ℕ) (t : List ℕ) : Type 0 where
  pub size : length t ≡ transit_size
  pub few : len ≤ system_messages
  pub fit : every (valid_slot n clients) (rows len t) ≡ true
  pub ordered : ascending 0 sent (slots len t) ≡ true
  pub rest : every (eqb 0) (drop (slot_size * len) t) ≡ true

module _ (n clients sent len : ℕ) (t : List ℕ) where
  pub known : valid_slots n clients sent len t ≡ true → Known n clients sent len t
  unfolding valid_slots
  known e =
      let z : Bool = every (eqb 0) (drop (slot_size * len) t) in
      let o : Bool = ascending 0 sent (slots len t) in
      let v : Bool = every (valid_slot n clients) (rows len t) in
      let (a, r₁) = both (eqb (length t) transit_size) (leb len system_messages && (v && (o && z))) e in
      let (b, r₂) = both (leb len system_messages) (v && (o && z)) r₁ in
      let (c, r₃) = both v (o && z) r₂ in
      let (d, f) = both o z r₃ in
      record { size = eqb-true _ _ a; few = leb-true _ _ b; fit = c; ordered = d; rest = f }

  pub known-valid : Known n clients sent len t → valid_slots n clients sent len t ≡ true
  unfolding valid_slots
  known-valid K = rw (K.size, le-leb len system_messages K.few, K.fit, K.ordered, K.rest)

-- slots around one of them
pub slots_around : (i k : ℕ) (t : List ℕ) → slots (i + suc k) t ≡ slots i t ++ (slot_at t i ∷ slots k (drop (slot_size * suc i) t))
unfolding slots
slots_around i k t = ap (map slot_of) (rows_around i k t) ∙
    map-append slot_of (rows i t) (take slot_size (drop (slot_size * i) t) ∷ rows k (drop (slot_size * suc i) t))

pub slots_next : (i : ℕ) (t : List ℕ) → slots (suc i) t ≡ slots i t ++ (slot_at t i ∷ [])
unfolding slots
slots_next i t = ap (map slot_of) (rows_next i t) ∙ map-append slot_of (rows i t) (take slot_size (drop (slot_size * i) t) ∷ [])

pub slots_same : (k : ℕ) (s t : List ℕ) → slot_size * k ≤ length s → slot_size * k ≤ length t → take (slot_size * k) s ≡ take (slot_size * k) t
    → slots k s ≡ slots k t
unfolding slots
slots_same k s t h g e = ap (map slot_of) (rows_same k s t h g e)

pub slots_cons : (k : ℕ) (t : List ℕ) → slots (suc k) t ≡ slot_of (take slot_size t) ∷ slots k (drop slot_size t)
unfolding slots rows
slots_cons k t = refl

-- the slots from i on
module _ (t : List ℕ) (len i : ℕ) (h : i < len) where
  rows-here : rows (len - i) (drop (slot_size * i) t) ≡ take slot_size (drop (slot_size * i) t) ∷ rows (len - (i + 1)) (drop (slot_size * (i + 1)) t)
  unfolding rows
  rows-here =
      let z : len - i ≡ suc (len - (i + 1)) = omega arith in
      let y : slot_size * (i + 1) ≡ slot_size * i + slot_size = omega arith in
      rw (z, drop-drop slot_size (slot_size * i) t, y)

  slots-here : slots (len - i) (drop (slot_size * i) t) ≡ slot_at t i ∷ slots (len - (i + 1)) (drop (slot_size * (i + 1)) t)
  unfolding slots
  slots-here = ap (map slot_of) rows-here

-- a test of the slots by their places, from slot i on
pub rows-all : (f : List ℕ → Bool) (t : List ℕ) (i k : ℕ)
    → list_all (λ (i : ℕ). f (take slot_size (drop (slot_size * i) t))) (range_with_len i k) ≡ every f (rows k (drop (slot_size * i) t))
unfolding rows
rows-all f t i zero = refl
rows-all f t i (suc k) =
    let y : slot_size * (i + 1) ≡ slot_size * i + slot_size = omega arith in
    rw (rows-all f t (i + 1) k, y, drop-drop slot_size (slot_size * i) t)

-- what `numbers_ascend` knows before slot i: the numbers ascend if those from there on ascend from the last one
pub record Climbing (sent : ℕ) (t : List ℕ) (len last i : ℕ) : Type 0 where
  pub within : i ≤ len
  pub same : ascending 0 sent (slots len t) ≡ ascending last sent (slots (len - i) (drop (slot_size * i) t))

module _ (sent : ℕ) (t : List ℕ) (len : ℕ) where
  module _ (last i : ℕ) (C : Climbing sent t len last i) where
    module _ (h : i < len) where
      pub climbing_low : get_or t (slot_size * i) 0 ≤ last → false ≡ ascending 0 sent (slots len t)
      unfolding ascending
      climbing_low p = rw (C.same, slots-here t len i h, number_at t i, le-ltb last (get_or t (slot_size * i) 0) p)

      pub climbing_high : last < get_or t (slot_size * i) 0 → sent < get_or t (slot_size * i) 0 → false ≡ ascending 0 sent (slots len t)
      unfolding ascending
      climbing_high p q = rw (C.same, slots-here t len i h, number_at t i, lt-ltb last (get_or t (slot_size * i) 0) p, lt-leb (get_or t (slot_size * i) 0) sent q)

      pub climbing_more : last < get_or t (slot_size * i) 0 → get_or t (slot_size * i) 0 ≤ sent → Climbing sent t len (get_or t (slot_size * i) 0) (i + 1)
      unfolding ascending
      climbing_more p q = record {
        within = omega arith;
        same = rw (C.same, slots-here t len i h, number_at t i, lt-ltb last (get_or t (slot_size * i) 0) p, le-leb (get_or t (slot_size * i) 0) sent q);
      }

    pub climbing_all : len ≤ i → true ≡ ascending 0 sent (slots len t)
    unfolding ascending slots rows
    climbing_all h = let z : len - i ≡ 0 = omega (arith, C.within) in rw (C.same, z)

-- the five tests in their order
module _ (n clients sent len : ℕ) (t : List ℕ) where
  pub valid-size : (length t ≡ transit_size → ⊥) → false ≡ valid_slots n clients sent len t
  unfolding valid_slots
  valid-size h = rw (ne_eqb (length t) transit_size h)

  module _ (a : length t ≡ transit_size) where
    pub valid-many : system_messages < len → false ≡ valid_slots n clients sent len t
    unfolding valid_slots
    valid-many h = rw (a, lt-leb len system_messages h)

    module _ (b : len ≤ system_messages) (x : Bool) (e : x ≡ every (valid_slot n clients) (rows len t)) where
      pub valid-slots : x ≡ false → false ≡ valid_slots n clients sent len t
      unfolding valid_slots
      valid-slots h = rw (a, le-leb len system_messages b, ← e, h)

      module _ (c : x ≡ true) (y : Bool) (f : y ≡ ascending 0 sent (slots len t)) where
        pub valid-numbers : y ≡ false → false ≡ valid_slots n clients sent len t
        unfolding valid_slots
        valid-numbers h = rw (a, le-leb len system_messages b, ← e, c, ← f, h)

        pub valid-rest : (z : Bool) → y ≡ true → z ≡ every (eqb 0) (drop (slot_size * len) t) → z ≡ valid_slots n clients sent len t
        unfolding valid_slots
        valid-rest z h p = rw (a, le-leb len system_messages b, ← e, c, ← f, h) p

-- what holds of all rows holds of each
module _ (n clients sent len : ℕ) (t : List ℕ) (ok : valid_slots n clients sent len t ≡ true) (i : ℕ) (h : i < len) where
  pub slot_valid_at : valid_slot n clients (take slot_size (drop (slot_size * i) t)) ≡ true
  slot_valid_at =
      let K = known n clients sent len t ok in
      let k : ℕ = len - suc i in
      let z : i + suc k ≡ len = omega arith in
      let e : every (valid_slot n clients) (rows (i + suc k) t) ≡ true = rw z K.fit in
      let e' = rw (rows_around i k t) at e in
      let (p, q) = every-parts (valid_slot n clients) (rows i t) (take slot_size (drop (slot_size * i) t) ∷ rows k (drop (slot_size * suc i) t)) e' in
      (both (valid_slot n clients (take slot_size (drop (slot_size * i) t))) (every (valid_slot n clients) (rows k (drop (slot_size * suc i) t))) q).0

pub message-lent : (t : List ℕ) (i : ℕ) → length t ≡ transit_size → i < system_messages → (m : Message)
    → m ≡ message_or (message_in (take (slot_size * i + slot_size - (slot_size * i + 2)) (drop (slot_size * i + 2) t))) → m ≡ message_at t i
message-lent t i size used m e = e ∙ ap (λ (ws : List ℕ). message_or (message_in ws)) (sym (message-words t i size used))

-- in a system's words it is the slot's message
pub message-found : (n clients sent len : ℕ) (t : List ℕ) → Valid n clients sent len t → (i : ℕ) → i < len → message_at t i ≡ (slot_at t i).message
message-found n clients sent len t ok i h =
    fitting_message n clients (take slot_size (drop (slot_size * i) t))
    (slot_fitting n clients (take slot_size (drop (slot_size * i) t)) (slot_valid_at n clients sent len t ok i h))
