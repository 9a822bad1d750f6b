-- One slot: its seven words and the message they hold. A valid slot's words make a message in range, and such a message's words are a valid slot.
use Prim.Native.Nat.{ℕ, ◌+◌, ◌-◌, ◌*◌, ◌<◌, ◌≤◌}
use native.Mathlib.Omega.{arith}
use mathlib.Core.Path.{◌≡◌, refl, sym, ap, ◌∙◌}
use mathlib.Core.Bool.{Bool, true, false, false≢true, ◌&&◌}
use mathlib.Core.List.{List, [], ◌∷◌}
use mathlib.Core.Logic.{◌⊎◌, inl, inr}
use lib.Dec.{eqb, leb}
use lib.ListN.{length, get_or, set, take, drop, length-drop}
use lib.Seq.{take-add, drop_at, length-take-le, get_or-take, get_or-drop, drop-drop}
use borrow.Author.Tests.{le-leb, lt-leb, leb-true}
use Rattle.ids.specs.Choice.{maybe}
use Rattle.std.specs.Prelude.{if◌then◌else◌, Some, None, Option}
use Rattle.ids.specs.Limits.{within, max_servers, max_short}
use Rattle.ids.proofs.Choice.{both, decided}
use Rattle.ids.proofs.LimitsLaws.{within-range}
use Rattle.wire.specs.Format.{known, words, fields_of, message_of, valid, valid_fields, valid_fields_up_to}
use Rattle.wire.specs.Inner.{valid_numbers}
use Rattle.wire.specs.declared.Fields.{Fields}
use Rattle.wire.specs.declared.Message.{Message}
use Rattle.wire.proofs.NumbersLaws.{valid_sound, message_fields, valid-message, fields_again}
use Rattle.words.specs.Messages.{fits, fields_from, crossing, as_message, message_in, message_or}
use Rattle.system.specs.Transit.{InTransit}
use Rattle.sim_transit.specs.Slots.{slot_of, slot_at, names, valid_slot, slot_size, transit_size}
use Rattle.sim_transit.specs.Inner.{named_fields}
use Rattle.sim_transit.specs.Calls.{slot_words}
use Rattle.system.specs.Limits.{system_messages}

-- seven words
pub data Seven : List ℕ → Type 0 where
  seven : (a b c d e f g : ℕ) → Seven (a ∷ (b ∷ (c ∷ (d ∷ (e ∷ (f ∷ (g ∷ [])))))))

pub sevens : (ws : List ℕ) → length ws ≡ slot_size → Seven ws
sevens [] h = absurd (omega arith)
sevens (a ∷ []) h = absurd (omega arith)
sevens (a ∷ (b ∷ [])) h = absurd (omega arith)
sevens (a ∷ (b ∷ (c ∷ []))) h = absurd (omega arith)
sevens (a ∷ (b ∷ (c ∷ (d ∷ [])))) h = absurd (omega arith)
sevens (a ∷ (b ∷ (c ∷ (d ∷ (e ∷ []))))) h = absurd (omega arith)
sevens (a ∷ (b ∷ (c ∷ (d ∷ (e ∷ (f ∷ [])))))) h = absurd (omega arith)
sevens (a ∷ (b ∷ (c ∷ (d ∷ (e ∷ (f ∷ (g ∷ []))))))) h = seven a b c d e f g
sevens (a ∷ (b ∷ (c ∷ (d ∷ (e ∷ (f ∷ (g ∷ (x ∷ ws)))))))) h = absurd (omega arith)

-- what the test says of a slot's words
pub record Fitting (n clients : ℕ) (ws : List ℕ) : Type 0 where
  pub flag : get_or ws 1 0 ≤ 1
  pub crosses : crossing (drop 2 ws) ≡ Some (fields_from (drop 2 ws))
  pub range : valid_fields (fields_from (drop 2 ws)) ≡ true
  pub named : names n clients (message_of (fields_from (drop 2 ws))) ≡ true

module _ (g : Message → Bool) where
  chosen : (v : Bool) (m : Message) → maybe (if v then Some m else None) false g ≡ true → (v ≡ true) × (g m ≡ true)
  chosen true m e = (refl, e)
  chosen false m e = absurd (false≢true e)

  crossed : (b : Bool) (f : Fields) → maybe (as_message (if b then Some f else None)) false g ≡ true
      → (b ≡ true) × ((valid_fields f ≡ true) × (g (message_of f) ≡ true))
  crossed true f e = (refl, chosen (valid_fields f) (message_of f) e)
  crossed false f e = absurd (false≢true e)

module _ (n clients : ℕ) (ws : List ℕ) where
  pub slot_fitting : valid_slot n clients ws ≡ true → Fitting n clients ws
  unfolding valid_slot crossing
  slot_fitting e =
      let us : List ℕ = drop 2 ws in
      let b : Bool = eqb (length us) 5 && fits (get_or us 0 0) (get_or us 1 0) (get_or us 2 0) (get_or us 4 0) in
      let (l, r) = both (leb (get_or ws 1 0) 1) (maybe (message_in us) false (names n clients)) e in
      let (x, (v, m)) = crossed (names n clients) b (fields_from us) r in
      record { flag = leb-true _ _ l; crosses = rw x; range = v; named = m }

  pub fitting_slot : Fitting n clients ws → valid_slot n clients ws ≡ true
  unfolding valid_slot
  fitting_slot F = rw (le-leb (get_or ws 1 0) 1 F.flag, F.crosses, F.range, F.named)

  pub fitting_message : Fitting n clients ws → message_or (message_in (drop 2 ws)) ≡ (slot_of ws).message
  unfolding slot_of
  fitting_message F = rw (F.crosses, F.range)

-- the words of a message in range
module _ (n clients : ℕ) (x : InTransit) (v : valid x.message ≡ true) where
  pub slot-again : slot_of (slot_words x) ≡ x
  unfolding slot_of slot_words
  slot-again =
      let d : eqb (if x.delivered then 1 else 0) 1 ≡ x.delivered = flag x.delivered in
      let m : message_of (fields_of x.message) ≡ x.message = message_fields max_servers x.message v in
      λ i. record { number = x.number; delivered = d i; message = m i }
    where
      flag : (b : Bool) → eqb (if b then 1 else 0) 1 ≡ b
      flag true = refl
      flag false = refl

  fields_range : valid_fields (fields_of x.message) ≡ true
  unfolding valid_fields_up_to
  fields_range =
      let s = valid_sound x.message v in
      rw (s.kind, valid-message (fields_of x.message) max_servers s.kind s.alone, message_fields max_servers x.message v) v

  crossing-words : crossing (words (fields_of x.message)) ≡ Some (fields_of x.message)
  unfolding crossing fits
  crossing-words =
      let s = valid_sound x.message v in
      let f : Fields = fields_of x.message in
      let k : f.kind ≤ max_short = omega (arith, within-range f.kind 6 s.kind) in
      let c : f.client ≤ max_short = omega (arith, s.client) in
      let j : f.server ≤ max_short = omega (arith, s.server) in
      let o : f.owner ≤ max_short = omega (arith, s.owner) in
      rw (le-leb f.kind max_short k, le-leb f.client max_short c, le-leb f.server max_short j, le-leb f.owner max_short o)

  pub words-valid : names n clients x.message ≡ true → valid_slot n clients (slot_words x) ≡ true
  unfolding valid_slot slot_words
  words-valid m = rw (crossing-words, fields_range, message_fields max_servers x.message v, m) (flag x.delivered)
    where
      flag : (b : Bool) → (leb (if b then 1 else 0) 1 && true) ≡ true
      flag true = refl
      flag false = refl

-- a slot marked as delivered or pending
module _ (n clients v : ℕ) where
  pub slot-marked : {ws : List ℕ} → Seven ws → slot_of (set ws 1 v) ≡ record { number = (slot_of ws).number; delivered = eqb v 1; message = (slot_of ws).message }
  unfolding slot_of
  slot-marked (seven a b c d e f g) = refl

  pub marked-valid : {ws : List ℕ} → Seven ws → v ≤ 1 → valid_slot n clients ws ≡ true → valid_slot n clients (set ws 1 v) ≡ true
  marked-valid (seven a b c d e f g) l h =
      let F = slot_fitting n clients (a ∷ (b ∷ (c ∷ (d ∷ (e ∷ (f ∷ (g ∷ []))))))) h in
      fitting_slot n clients (a ∷ (v ∷ (c ∷ (d ∷ (e ∷ (f ∷ (g ∷ [])))))))
      (record { flag = l; crosses = F.crosses; range = F.range; named = F.named })

-- where a slot's words stand
pub number_at : (t : List ℕ) (i : ℕ) → (slot_at t i).number ≡ get_or t (slot_size * i) 0
unfolding slot_of
number_at t i =
    let z : slot_size * i + 0 ≡ slot_size * i = omega arith in
    let s : 0 < slot_size = omega arith in
    rw (get_or-take slot_size (drop (slot_size * i) t) 0 0 s, get_or-drop (slot_size * i) t 0 0, z)

pub word_at : (t : List ℕ) (i k : ℕ) → k < slot_size → get_or (take slot_size (drop (slot_size * i) t)) k 0 ≡ get_or t (slot_size * i + k) 0
word_at t i k h = rw (get_or-take slot_size (drop (slot_size * i) t) k 0 h, get_or-drop (slot_size * i) t k 0)

pub delivered-at : (t : List ℕ) (i : ℕ) → (slot_at t i).delivered ≡ eqb (get_or t (slot_size * i + 1) 0) 1
unfolding slot_of
delivered-at t i = ap (λ (x : ℕ). eqb x 1) (word_at t i 1 (omega arith))

drop-take : (m k : ℕ) (l : List ℕ) → m ≤ length l → drop m (take (m + k) l) ≡ take k (drop m l)
drop-take m k l h = rw (take-add m k l, drop_at (take m l) (take k (drop m l)) m (length-take-le m l h))

module _ (t : List ℕ) (i : ℕ) (size : length t ≡ transit_size) (used : i < system_messages) where
  pub row-size : slot_size ≤ length (drop (slot_size * i) t)
  row-size = simp length-drop (omega arith)

  pub row_seven : Seven (take slot_size (drop (slot_size * i) t))
  row_seven = sevens (take slot_size (drop (slot_size * i) t)) (length-take-le slot_size (drop (slot_size * i) t) row-size)

  -- the five words of its message, as the code lends them
  pub message-words : drop 2 (take slot_size (drop (slot_size * i) t)) ≡ take (slot_size * i + slot_size - (slot_size * i + 2)) (drop (slot_size * i + 2) t)
  message-words =
      let h : 2 ≤ length (drop (slot_size * i) t) = omega (arith, row-size) in
      let z : slot_size * i + slot_size - (slot_size * i + 2) ≡ 5 = omega arith in
      rw z (drop-take 2 5 (drop (slot_size * i) t) h ∙ ap (take 5) (drop-drop 2 (slot_size * i) t))

-- the tests of a slot, one after another
module _ (n clients : ℕ) (f : Fields) where
  pub named-names : valid_fields f ≡ true → named_fields n clients f ≡ names n clients (message_of f)
  unfolding named_fields names
  named-names v = rw (v, fields_again max_servers f v)

  module _ (v : Bool) (e : v ≡ valid_fields f) where
    pub named-range : v ≡ false → false ≡ named_fields n clients f
    unfolding named_fields
    named-range h = rw (← e, h)

    module _ (h : v ≡ true) (x : Bool) (p : x ≡ within f.client clients) where
      pub named-client : x ≡ false → false ≡ named_fields n clients f
      unfolding named_fields
      named-client k = rw (← e, h, ← p, k)

      module _ (k : x ≡ true) (y : Bool) (q : y ≡ within f.server n) where
        pub named-server : y ≡ false → false ≡ named_fields n clients f
        unfolding named_fields
        named-server j = rw (← e, h, ← p, k, ← q, j)

        pub named-owner : y ≡ true → leb f.owner clients ≡ named_fields n clients f
        unfolding named_fields
        named-owner j = rw (← e, h, ← p, k, ← q, j)

module _ (n clients : ℕ) (ws : List ℕ) where
  pub slot_flag : 1 < get_or ws 1 0 → false ≡ valid_slot n clients ws
  unfolding valid_slot
  slot_flag h = rw (lt-leb (get_or ws 1 0) 1 h)

  module _ (h : get_or ws 1 0 ≤ 1) (g : Option Fields) (e : g ≡ crossing (drop 2 ws)) where
    pub slot_large : g ≡ None → false ≡ valid_slot n clients ws
    unfolding valid_slot
    slot_large p = let q : crossing (drop 2 ws) ≡ None = cc in rw (le-leb (get_or ws 1 0) 1 h, q)

    pub slot-numbers : (f : Fields) (r : Bool) → g ≡ Some f → r ≡ named_fields n clients f → r ≡ valid_slot n clients ws
    unfolding valid_slot named_fields
    slot-numbers f r p x =
        let q : crossing (drop 2 ws) ≡ Some f = cc in
        rw (le-leb (get_or ws 1 0) 1 h, q, x) (go (decided (valid_fields f)))
      where
        go : ((valid_fields f ≡ true) ⊎ (valid_fields f ≡ false))
            → named_fields n clients f ≡ maybe (if valid_fields f then Some (message_of f) else None) false (names n clients)
        go (inl v) = named-names n clients f v ∙ rw v
        go (inr v) = rw v

-- the same of the words as the code finds them
module _ (n clients : ℕ) (t : List ℕ) (i : ℕ) (size : length t ≡ transit_size) (used : i < system_messages) where
  flag_at : get_or (take slot_size (drop (slot_size * i) t)) 1 0 ≡ get_or t (slot_size * i + 1) 0
  flag_at = word_at t i 1 (omega arith)

  pub flag_found : 1 < get_or t (slot_size * i + 1) 0 → false ≡ valid_slot n clients (take slot_size (drop (slot_size * i) t))
  flag_found h = slot_flag n clients (take slot_size (drop (slot_size * i) t)) (rw flag_at h)

  module _ (h : get_or t (slot_size * i + 1) 0 ≤ 1) (g : Option Fields)
      (e : g ≡ crossing (take (slot_size * i + slot_size - (slot_size * i + 2)) (drop (slot_size * i + 2) t))) where
    from_row : g ≡ crossing (drop 2 (take slot_size (drop (slot_size * i) t)))
    from_row = e ∙ ap crossing (sym (message-words t i size used))

    pub large_found : g ≡ None → false ≡ valid_slot n clients (take slot_size (drop (slot_size * i) t))
    large_found q = slot_large n clients (take slot_size (drop (slot_size * i) t)) (rw flag_at h) g from_row q

    pub numbers-found : (f : Fields) (r : Bool) → g ≡ Some f → r ≡ named_fields n clients f → r ≡ valid_slot n clients (take slot_size (drop (slot_size * i) t))
    numbers-found f r q x = slot-numbers n clients (take slot_size (drop (slot_size * i) t)) (rw flag_at h) g from_row f r q x

pub known-kind : (f : Fields) → valid_fields f ≡ true → known f.kind ≡ true
unfolding valid_fields_up_to
known-kind f v = (both (known f.kind) (valid_numbers f) v).0
