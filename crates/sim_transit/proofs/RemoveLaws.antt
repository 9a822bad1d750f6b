-- A message removed: the words behind its slot move up by seven, and the last used slot becomes zeros.
use Prim.Native.Nat.{ℕ, suc, ◌+◌, ◌-◌, ◌*◌, ◌<◌, ◌≤◌}
use native.Mathlib.Omega.{arith}
use mathlib.Core.Path.{◌≡◌, refl, sym, ap, ◌∙◌}
use mathlib.Core.Bool.{true}
use mathlib.Core.List.{List, ◌∷◌, ◌++◌, map, map-append, append_assoc}
use lib.ListN.{length, take, drop, replicate, length-drop, length-append}
use lib.Seq.{sets, paste, sets-eq, length-sets, drop-drop, length-take-le, take-paste, drop-paste, length-paste, drop_at}
use Rattle.ids.specs.Lists.{every}
use Rattle.system.specs.Transit.{replaced, gone}
use Rattle.sim_transit.specs.Slots.{slot_of, slot_at, rows, slots, valid_slot, ascending, slot_size, transit_size}
use Rattle.sim_transit.specs.Calls.{removed}
use Rattle.sim_transit.proofs.Means.{Removes}
use Rattle.ids.proofs.Choice.{both}
use Rattle.sim_transit.proofs.RowsLaws.{rows_around, rows_split, rows-front, rows_take}
use Rattle.sim_transit.proofs.NumbersLaws.{ascends_without, replaced-there}
use Rattle.ids.proofs.ListLaws.{every_append, every-parts}
use Rattle.sim_transit.proofs.ValidLaws.{Known, known, known-valid, slots_around}
use Rattle.system.specs.Limits.{system_messages}

-- removal: the k slots behind slot i have moved up, and the last used one is empty
module _ (t t₁ t₂ : List ℕ) (i k : ℕ) (size : length t ≡ transit_size) (used : i + suc k ≤ system_messages)
    (e₁ : t₁ ≡ paste t (slot_size * i) (drop (slot_size * i + slot_size) t) (slot_size * k))
    (e₂ : t₂ ≡ sets t₁ (slot_size * i + slot_size * k) (replicate slot_size 0)) where
  room : slot_size * k ≤ length (drop (slot_size * i + slot_size) t)
  room = simp length-drop (omega arith)

  size₁ : length t₁ ≡ transit_size
  size₁ = ap length e₁ ∙ (length-paste t (slot_size * i) (drop (slot_size * i + slot_size) t) (slot_size * k) (omega arith) room ∙ size)

  size₂ : length t₂ ≡ transit_size
  size₂ = ap length e₂ ∙ (length-sets t₁ (slot_size * i + slot_size * k) (replicate slot_size 0) ∙ size₁)

  length-kept : length (take (slot_size * i) t) ≡ slot_size * i
  length-kept = length-take-le (slot_size * i) t (omega arith)

  length_moved : length (take (slot_size * k) (drop (slot_size * i + slot_size) t)) ≡ slot_size * k
  length_moved = length-take-le (slot_size * k) (drop (slot_size * i + slot_size) t) room

  parts : t₂ ≡ (take (slot_size * i) t ++ take (slot_size * k) (drop (slot_size * i + slot_size) t)) ++ (replicate slot_size 0 ++ drop (slot_size * (i + suc k)) t)
  parts =
      let h : slot_size * i ≤ length t = omega arith in
      let fits : slot_size * i + slot_size * k + slot_size ≤ length t₁ = omega (arith, size₁) in
      let p : take (slot_size * i + slot_size * k) t₁ ≡ take (slot_size * i) t ++ take (slot_size * k) (drop (slot_size * i + slot_size) t) = rw
      e₁ (take-paste t (slot_size * i) (drop (slot_size * i + slot_size) t) (slot_size * k) h room) in
      let d : drop (slot_size * i + slot_size * k) t₁ ≡ drop (slot_size * i + slot_size * k) t = rw e₁
      (drop-paste t (slot_size * i) (drop (slot_size * i + slot_size) t) (slot_size * k) h room) in
      let z : slot_size * (i + suc k) ≡ slot_size * i + slot_size * k + slot_size = omega arith in
      let q : drop (slot_size * i + slot_size * k + slot_size) t₁ ≡ drop (slot_size * i + slot_size * k + slot_size) t = sym
      (drop-drop slot_size (slot_size * i + slot_size * k) t₁) ∙
      (ap (drop slot_size) d ∙ drop-drop slot_size (slot_size * i + slot_size * k) t) in
      let s = sets-eq (replicate slot_size 0) t₁ (slot_size * i + slot_size * k) fits in
      e₂ ∙ (s ∙ rw (p, q, z) (append_assoc (take (slot_size * i) t ++ take (slot_size * k) (drop (slot_size * i + slot_size) t))
      (replicate slot_size 0) (drop (slot_size * i + slot_size * k + slot_size) t)))

  rows-removed : rows (i + k) t₂ ≡ rows i t ++ rows k (drop (slot_size * suc i) t)
  rows-removed =
      let z : slot_size * suc i ≡ slot_size * i + slot_size = omega arith in
      let c : t₂ ≡ take (slot_size * i) t ++ (take (slot_size * k) (drop (slot_size * i + slot_size) t) ++ (replicate slot_size 0 ++ drop
      (slot_size * (i + suc k)) t)) = parts ∙ append_assoc (take (slot_size * i) t) (take (slot_size * k) (drop (slot_size * i + slot_size)
      t)) (replicate slot_size 0 ++ drop (slot_size * (i + suc k)) t) in
      let f : rows i t₂ ≡ rows i t = rw c (rows-front i (take (slot_size * i) t)
      (take (slot_size * k) (drop (slot_size * i + slot_size) t) ++ (replicate slot_size 0 ++ drop (slot_size * (i + suc k)) t))
      (omega (arith, length-kept)) ∙ rows_take i t (omega arith)) in
      let d : drop (slot_size * i) t₂ ≡ take (slot_size * k) (drop (slot_size * i + slot_size) t) ++ (replicate slot_size 0 ++ drop
      (slot_size * (i + suc k)) t) = rw c (drop_at (take (slot_size * i) t)
      (take (slot_size * k) (drop (slot_size * i + slot_size) t) ++ (replicate slot_size 0 ++ drop (slot_size * (i + suc k)) t))
      (slot_size * i) length-kept) in
      let g : rows k (take (slot_size * k) (drop (slot_size * i + slot_size) t) ++ (replicate slot_size 0 ++ drop (slot_size * (i + suc k)) t)) ≡ rows
      k (drop (slot_size * i + slot_size) t) = rows-front k (take (slot_size * k) (drop (slot_size * i + slot_size) t))
      (replicate slot_size 0 ++ drop (slot_size * (i + suc k)) t) (omega (arith, length_moved)) ∙ rows_take k
      (drop (slot_size * i + slot_size) t) room in
      rw (z, rows_split i k t₂, f, d, g)

  slots-removed : slots (i + k) t₂ ≡ slots i t ++ slots k (drop (slot_size * suc i) t)
  unfolding slots
  slots-removed = ap (map slot_of) rows-removed ∙ map-append slot_of (rows i t) (rows k (drop (slot_size * suc i) t))

  rest-removed : drop (slot_size * (i + k)) t₂ ≡ replicate slot_size 0 ++ drop (slot_size * (i + suc k)) t
  rest-removed =
      let l : length (take (slot_size * i) t ++ take (slot_size * k) (drop (slot_size * i + slot_size) t)) ≡ slot_size * (i + k) = omega (
        arith,
        length-append (take (slot_size * i) t) (take (slot_size * k) (drop (slot_size * i + slot_size) t)),
        length-kept,
        length_moved,
      ) in
      rw parts (drop_at (take (slot_size * i) t ++ take (slot_size * k) (drop (slot_size * i + slot_size) t))
      (replicate slot_size 0 ++ drop (slot_size * (i + suc k)) t) (slot_size * (i + k)) l)

  module _ (n clients sent : ℕ) (K : Known n clients sent (i + suc k) t) where
    removed-ordered : ascending 0 sent (slots i t ++ (slot_at t i ∷ slots k (drop (slot_size * suc i) t))) ≡ true
    removed-ordered = rw (slots_around i k t) at K.ordered

    pub removed-known : Known n clients sent (i + k) t₂
    removed-known =
        let f : every (valid_slot n clients) (rows i t ++ (take slot_size (drop (slot_size * i) t) ∷ rows k (drop (slot_size * suc i) t))) ≡ true =
        rw (rows_around i k t) at K.fit in
        let (p, q) = every-parts (valid_slot n clients) (rows i t) (take slot_size (drop (slot_size * i) t) ∷ rows k (drop (slot_size * suc i) t)) f in
        let r = (both (valid_slot n clients (take slot_size (drop (slot_size * i) t))) (every (valid_slot n clients) (rows k (drop (slot_size * suc i) t))) q).1 in
        record {
          size = size₂;
          few = omega arith;
          fit = rw rows-removed (every_append (valid_slot n clients) (rows i t) (rows k (drop (slot_size * suc i) t)) p r);
          ordered = rw slots-removed (ascends_without sent 0 (slots i t) (slot_at t i) (slots k (drop (slot_size * suc i) t)) removed-ordered);
          rest = rw rest-removed K.rest;
        }

    pub removed-after : slots (i + k) t₂ ≡ replaced (slot_at t i).number gone (slots (i + suc k) t)
    removed-after =
        let q = replaced-there sent gone 0 (slots i t) (slot_at t i) (slots k (drop (slot_size * suc i) t)) removed-ordered in
        rw (slots-removed, slots_around i k t, q)

-- what the code stores is that
pub removed-is : (t t₁ t₂ : List ℕ) (len i : ℕ)
    → t₁ ≡ paste t (slot_size * i) (drop (slot_size * i + slot_size) t) (slot_size * (len - 1 - i))
    → t₂ ≡ sets t₁ (slot_size * i + slot_size * (len - 1 - i)) (replicate slot_size 0) → t₂ ≡ removed len i t
removed-is t t₁ t₂ len i e₁ e₂ = e₂ ∙ ap (λ (l : List ℕ). sets l (slot_size * i + slot_size * (len - 1 - i)) (replicate slot_size 0)) e₁

pub removes : (t : List ℕ) (len i : ℕ) → length t ≡ transit_size → len ≤ system_messages → i < len → Removes len i t (removed len i t)
removes t len i size few h =
    let z : len ≡ i + suc (len - 1 - i) = omega arith in
    let y : len - 1 ≡ i + (len - 1 - i) = omega arith in
    let used : i + suc (len - 1 - i) ≤ system_messages = omega arith in
    go t _ (removed len i t) len i (len - 1 - i) size z y used refl refl
  where
    go : (t t₁ t₂ : List ℕ) (len i k : ℕ) → length t ≡ transit_size → len ≡ i + suc k → len - 1 ≡ i + k → i + suc k ≤ system_messages
        → t₁ ≡ paste t (slot_size * i) (drop (slot_size * i + slot_size) t) (slot_size * k)
        → t₂ ≡ sets t₁ (slot_size * i + slot_size * k) (replicate slot_size 0) → Removes len i t t₂
    go t t₁ t₂ len i k size z y used e₁ e₂ =
        record {
          valid = λ n clients sent ok. rw y
              (known-valid n clients sent (i + k) t₂ (removed-known t t₁ t₂ i k size used e₁ e₂ n clients sent (rw z at (known n clients sent len t ok))));
          after = λ n clients sent ok. rw (y, z) (removed-after t t₁ t₂ i k size used e₁ e₂ n clients sent (rw z at (known n clients sent len t ok)));
        }
