-- Looking a number up. The numbers ascend, so that those before the middle are below it and those behind it above: each look halves what is left.
-- The slot found is the first that passes; and that is where the system's own definitions find the message.
use Rattle.std.specs.Prelude.{Some, None}
use Prim.Native.Nat.{ℕ, zero, suc, ◌+◌, ◌-◌, ◌*◌, ◌<◌, ◌≤◌}
use native.Mathlib.Omega.{arith}
use mathlib.Core.Path.{◌≡◌, refl, sym, ap, ◌∙◌}
use mathlib.Core.Bool.{Bool, true, false, not}
use mathlib.Core.List.{List, [], ◌∷◌, ◌++◌, append-nil}
use mathlib.Core.Logic.{⊎_elim, inl, inr}
use lib.Dec.{eqb, ltb}
use lib.ListN.{length, get_or, take, drop}
use lib.Seq.{get_or-drop, drop-drop}
use borrow.Author.Tests.{ne_eqb, eq-eqb, eqb-true, ltb-true, ltb-false}
use Rattle.ids.proofs.Choice.{both, decided, Test}
use Rattle.system.specs.Transit.{InTransit, pending, present}
use Rattle.sim_transit.specs.Slots.{slot_of, slot_at, rows, slots, ascending, valid_slots, slot_size, transit_size}
use Rattle.sim_transit.specs.Calls.{Sized, Ordered, first_slot, is_pending, is_numbered}
use Rattle.sim_transit.specs.Inner.{Bound}
use Rattle.sim_transit.proofs.Means.{FindsPending, FindsPresent}
use Rattle.sim_transit.proofs.NumbersLaws.{rising}
use Rattle.sim_transit.proofs.SlotLaws.{number_at, word_at}
use Rattle.sim_transit.proofs.ValidLaws.{known, slots_cons, slots_around}
use Rattle.system.specs.Limits.{system_messages}

number_behind : (t : List ℕ) (i : ℕ) → get_or (drop slot_size t) (slot_size * i) 0 ≡ get_or t (slot_size * suc i) 0
number_behind t i = let z : slot_size + slot_size * i ≡ slot_size * suc i = omega arith in rw (get_or-drop slot_size t (slot_size * i) 0, z)

slot-behind : (t : List ℕ) (i : ℕ) → slot_at (drop slot_size t) i ≡ slot_at t (suc i)
slot-behind t i =
    let z : slot_size + slot_size * i ≡ slot_size * suc i = omega arith in
    rw (drop-drop (slot_size * i) slot_size t, z)

module _ (sent : ℕ) where
  climbs : (last k : ℕ) (t : List ℕ) → ascending last sent (slots k t) ≡ true → (i : ℕ) → i < k → last < get_or t (slot_size * i) 0
  climbs last zero t e i h = absurd (omega arith)
  climbs last (suc k) t e zero h =
      let r = rising sent last (slot_of (take slot_size t)) (slots k (drop slot_size t)) (rw (slots_cons k t) at e) in
      omega (arith, r.above, number_at t 0)
  climbs last (suc k) t e (suc i) h =
      let r = rising sent last (slot_of (take slot_size t)) (slots k (drop slot_size t)) (rw (slots_cons k t) at e) in
      omega (arith, r.above, climbs (slot_of (take slot_size t)).number k (drop slot_size t) r.others i (omega arith), number_behind t i)

  in_order : (last k : ℕ) (t : List ℕ) → ascending last sent (slots k t) ≡ true → Ordered k t
  in_order last zero t e i m h g = absurd (omega arith)
  in_order last (suc k) t e i zero h g = absurd (omega arith)
  in_order last (suc k) t e zero (suc m) h g =
      let r = rising sent last (slot_of (take slot_size t)) (slots k (drop slot_size t)) (rw (slots_cons k t) at e) in
      omega (arith, number_at t 0, climbs (slot_of (take slot_size t)).number k (drop slot_size t) r.others m (omega arith), number_behind t m)
  in_order last (suc k) t e (suc i) (suc m) h g =
      let r = rising sent last (slot_of (take slot_size t)) (slots k (drop slot_size t)) (rw (slots_cons k t) at e) in
      omega (
        arith,
        in_order (slot_of (take slot_size t)).number k (drop slot_size t) r.others i m (omega arith) (omega arith),
        number_behind t i,
        number_behind t m,
      )

-- the numbers of a valid list of slots ascend
pub valid-ordered : (n clients sent len : ℕ) (t : List ℕ) → valid_slots n clients sent len t ≡ true → Ordered len t
valid-ordered n clients sent len t ok = in_order sent 0 len t (known n clients sent len t ok).ordered

-- what `search` knows: below slot `low` the numbers are lower, from slot `high` on they are not
pub record Searching (number len : ℕ) (t : List ℕ) (low high : ℕ) : Type 0 where
  pub middle : low ≤ high
  pub within : high ≤ len
  pub size : length t ≡ transit_size
  pub few : len ≤ system_messages
  pub below : Ordered len t → (i : ℕ) → i < low → get_or t (slot_size * i) 0 < number
  pub above : Ordered len t → (i : ℕ) → high ≤ i → i < len → number ≤ get_or t (slot_size * i) 0

module _ (number len : ℕ) (t : List ℕ) where
  pub searching_none : Sized len t → Searching number len t 0 len
  searching_none s =
      record {
        middle = omega arith;
        within = omega arith;
        size = s.size;
        few = s.few;
        below = λ o i h. absurd (omega arith);
        above = λ o i h g. absurd (omega arith);
      }

  module _ (low high : ℕ) (S : Searching number len t low high) where
    pub searching_up : (m : ℕ) → low ≤ m → m < high → get_or t (slot_size * m) 0 < number → Searching number len t (m + 1) high
    searching_up m a b p =
        record {
          middle = omega arith;
          within = S.within;
          size = S.size;
          few = S.few;
          below = λ o i h. ⊎_elim
              (λ (q : ltb i m ≡ true). omega (arith, o i m (ltb-true i m q) (omega (arith, S.within))))
              (λ (q : ltb i m ≡ false). let z : i ≡ m = omega (arith, ltb-false i m q) in rw z p)
              (decided (ltb i m));
          above = S.above;
        }

    pub searching_down : (m : ℕ) → low ≤ m → m < high → number ≤ get_or t (slot_size * m) 0 → Searching number len t low m
    searching_down m a b p =
        record {
          middle = a;
          within = omega (arith, S.within);
          size = S.size;
          few = S.few;
          below = S.below;
          above = λ o i h g. ⊎_elim
              (λ (q : ltb m i ≡ true). omega (arith, o m i (ltb-true m i q) g))
              (λ (q : ltb m i ≡ false). let z : i ≡ m = omega (arith, ltb-false m i q) in rw z p)
              (decided (ltb m i));
        }

    pub searching_all : high ≤ low → Bound number len t low
    searching_all h =
        let z : low ≡ high = omega (arith, S.middle) in
        record { within = omega (arith, S.within); below = S.below; above = λ o i a g. S.above o i (omega arith) g }

-- the first slot that passes, where those before it fail
module _ (f : InTransit → Bool) where
  first_past : (k : ℕ) (t : List ℕ) (b : List InTransit) → ((i : ℕ) → i < k → f (slot_at t i) ≡ false) → first_slot f (slots k t ++ b) ≡ k + first_slot f b
  unfolding slots rows first_slot
  first_past zero t b h = omega arith
  first_past (suc k) t b h =
      let z : f (slot_of (take slot_size t)) ≡ false = h 0 (omega arith) in
      let y : suc k + first_slot f b ≡ suc (k + first_slot f b) = omega arith in
      rw (z, y) (ap suc (first_past k (drop slot_size t) b (λ i g. rw (slot-behind t i) (h (suc i) (omega arith)))))

  first-none : (k : ℕ) (t : List ℕ) → ((i : ℕ) → i < k → f (slot_at t i) ≡ false) → k ≡ first_slot f (slots k t)
  unfolding first_slot
  first-none k t h =
      let e = first_past k t [] h in
      let q : first_slot f (slots k t) ≡ k + 0 = rw append-nil at e in
      omega (arith, q)

  first-here : (r k : ℕ) (t : List ℕ) → ((i : ℕ) → i < r → f (slot_at t i) ≡ false) → f (slot_at t r) ≡ true → r ≡ first_slot f (slots (r + suc k) t)
  unfolding first_slot
  first-here r k t h e =
      let q = first_past r t (slot_at t r ∷ slots k (drop (slot_size * suc r) t)) h in
      let z : r + 0 ≡ r = omega arith in
      rw (slots_around r k t) (sym (rw (e, z) at q))

-- what the search's slot says
module _ (number len : ℕ) (t : List ℕ) (r : ℕ) (B : Bound number len t r) (o : Ordered len t) where
  other-number : (i : ℕ) → (get_or t (slot_size * i) 0 ≡ number → ⊥) → is_numbered number (slot_at t i) ≡ false
  other-number i ne = ne_eqb (slot_at t i).number number (λ e. ne (sym (number_at t i) ∙ e))

  not_pending : (i : ℕ) → (get_or t (slot_size * i) 0 ≡ number → ⊥) → is_pending number (slot_at t i) ≡ false
  not_pending i ne = rw (other-number i ne)

  before : (i : ℕ) → i < r → get_or t (slot_size * i) 0 ≡ number → ⊥
  before i h e = omega (arith, B.below o i h)

  behind : (i : ℕ) → r < i → i < len → get_or t (slot_size * r) 0 ≡ number → get_or t (slot_size * i) 0 ≡ number → ⊥
  behind i h g e p = omega (arith, o r i h g)

  module _ (past : len ≤ r) where
    pub pending_end : len ≡ first_slot (is_pending number) (slots len t)
    pending_end = first-none (is_pending number) len t (λ i h. not_pending i (before i (omega arith)))

    pub present_end : len ≡ first_slot (is_numbered number) (slots len t)
    present_end = first-none (is_numbered number) len t (λ i h. other-number i (before i (omega arith)))

  module _ (other : get_or t (slot_size * r) 0 ≡ number → ⊥) where
    nowhere : (i : ℕ) → i < len → get_or t (slot_size * i) 0 ≡ number → ⊥
    nowhere i h e =
        ⊎_elim
        (λ (q : ltb i r ≡ true). before i (ltb-true i r q) e)
        (λ (q : ltb i r ≡ false). ⊎_elim
        (λ (p : ltb r i ≡ true). let u : r < len = omega (arith, ltb-true r i p) in
        let a = B.above o r (omega arith) u in omega (arith, o r i (ltb-true r i p) h, a))
        (λ (p : ltb r i ≡ false). let z : i ≡ r = omega (arith, ltb-false i r q, ltb-false r i p) in other (rw z at e))
        (decided (ltb r i)))
        (decided (ltb i r))

    pub pending-other : len ≡ first_slot (is_pending number) (slots len t)
    pending-other = first-none (is_pending number) len t (λ i h. not_pending i (nowhere i h))

    pub present-other : len ≡ first_slot (is_numbered number) (slots len t)
    present-other = first-none (is_numbered number) len t (λ i h. other-number i (nowhere i h))

  module _ (inside : r < len) (same : get_or t (slot_size * r) 0 ≡ number) where
    its-number : is_numbered number (slot_at t r) ≡ true
    its-number = eq-eqb (slot_at t r).number number (number_at t r ∙ same)

    flag : (slot_at t r).delivered ≡ eqb (get_or t (slot_size * r + 1) 0) 1
    unfolding slot_of
    flag = rw (word_at t r 1 (omega arith))

    its-place : r + suc (len - suc r) ≡ len
    its-place = omega arith

    pub present-found : r ≡ first_slot (is_numbered number) (slots len t)
    present-found =
        first-here (is_numbered number) r (len - suc r) t (λ i h. other-number i (before i h)) its-number ∙
        ap (λ (k : ℕ). first_slot (is_numbered number) (slots k t)) its-place

    pub pending-found : (get_or t (slot_size * r + 1) 0 ≡ 1 → ⊥) → r ≡ first_slot (is_pending number) (slots len t)
    pending-found ne =
        let d : (slot_at t r).delivered ≡ false = flag ∙ ne_eqb (get_or t (slot_size * r + 1) 0) 1 ne in
        let p : is_pending number (slot_at t r) ≡ true = rw (its-number, d) in
        first-here (is_pending number) r (len - suc r) t (λ i h. not_pending i (before i h)) p ∙
        ap (λ (k : ℕ). first_slot (is_pending number) (slots k t)) its-place

    pub pending-gone : get_or t (slot_size * r + 1) 0 ≡ 1 → len ≡ first_slot (is_pending number) (slots len t)
    pending-gone e =
        let d : (slot_at t r).delivered ≡ true = flag ∙ eq-eqb (get_or t (slot_size * r + 1) 0) 1 e in
        let p : is_pending number (slot_at t r) ≡ false = rw (its-number, d) in
        first-none (is_pending number) len t (λ i h. by_place i h (decided (ltb i r)) (decided (ltb r i)) p)
      where
        by_place : (i : ℕ) → i < len → Test (ltb i r) → Test (ltb r i) → is_pending number (slot_at t r) ≡ false → is_pending number (slot_at t i) ≡ false
        by_place i h (inl q) x p = not_pending i (before i (ltb-true i r q))
        by_place i h (inr q) (inl x) p = not_pending i (behind i (ltb-true r i x) h same)
        by_place i h (inr q) (inr x) p = let z : i ≡ r = omega (arith, ltb-false i r q, ltb-false r i x) in rw z p

-- the place found, and the system's own looking up ------------------------------------------------------------------------------------

module _ (f : InTransit → Bool) where
  first-few : (l : List InTransit) → first_slot f l ≤ length l
  unfolding first_slot
  first-few [] = omega arith
  first-few (x ∷ l) = by_test (decided (f x)) (first-few l)
    where
      by_test : Test (f x) → first_slot f l ≤ length l → first_slot f (x ∷ l) ≤ suc (length l)
      by_test (inl e) h = rw e (omega arith)
      by_test (inr e) h = rw e (omega (arith, h))

  first_passes : (d : InTransit) (l : List InTransit) → first_slot f l < length l → f (get_or l (first_slot f l) d) ≡ true
  unfolding first_slot
  first_passes d [] h = absurd (omega arith)
  first_passes d (x ∷ l) h = by_test (decided (f x)) (first_passes d l) h
    where
      by_test : Test (f x) → (first_slot f l < length l → f (get_or l (first_slot f l) d) ≡ true) → first_slot f (x ∷ l) < suc (length l)
          → f (get_or (x ∷ l) (first_slot f (x ∷ l)) d) ≡ true
      by_test (inl e) more h = rw e e
      by_test (inr e) more h = rw e (more (let g : suc (first_slot f l) < suc (length l) = rw e at h in omega (arith, g)))

module _ (number : ℕ) where
  pending-at : (d : InTransit) (l : List InTransit) → first_slot (is_pending number) l < length l
      → pending number l ≡ Some (get_or l (first_slot (is_pending number) l) d).message
  unfolding pending first_slot
  pending-at d [] h = absurd (omega arith)
  pending-at d (x ∷ l) h = by_test (decided (is_pending number x)) (pending-at d l) h
    where
      by_test : Test (is_pending number x)
          → (first_slot (is_pending number) l < length l → pending number l ≡ Some (get_or l (first_slot (is_pending number) l) d).message)
          → first_slot (is_pending number) (x ∷ l) < suc (length l)
          → pending number (x ∷ l) ≡ Some (get_or (x ∷ l) (first_slot (is_pending number) (x ∷ l)) d).message
      by_test (inl e) more h = rw e
      by_test (inr e) more h =
          rw e (more (let g : suc (first_slot (is_pending number) l) < suc (length l) = rw e at h in omega (arith, g)))

  pending-none : (l : List InTransit) → first_slot (is_pending number) l ≡ length l → pending number l ≡ None
  unfolding pending first_slot
  pending-none [] h = refl
  pending-none (x ∷ l) h = by_test (decided (is_pending number x)) (pending-none l) h
    where
      by_test : Test (is_pending number x) → (first_slot (is_pending number) l ≡ length l → pending number l ≡ None)
          → first_slot (is_pending number) (x ∷ l) ≡ suc (length l) → pending number (x ∷ l) ≡ None
      by_test (inl e) more h = absurd (let g : ◌≡◌ {A = ℕ} 0 (suc (length l)) = rw e at h in omega (arith, g))
      by_test (inr e) more h = rw e (more (let g : suc (first_slot (is_pending number) l) ≡ suc (length l) = rw e at h in omega (arith, g)))

  present-at : (l : List InTransit) → first_slot (is_numbered number) l < length l → present number l ≡ true
  unfolding first_slot
  present-at [] h = absurd (omega arith)
  present-at (x ∷ l) h = by_test (decided (is_numbered number x)) (present-at l) h
    where
      by_test : Test (is_numbered number x) → (first_slot (is_numbered number) l < length l → present number l ≡ true)
          → first_slot (is_numbered number) (x ∷ l) < suc (length l) → present number (x ∷ l) ≡ true
      by_test (inl e) more h = rw e
      by_test (inr e) more h = rw e (more (let g : suc (first_slot (is_numbered number) l) < suc (length l) = rw e at h in omega (arith, g)))

  present-none : (l : List InTransit) → first_slot (is_numbered number) l ≡ length l → present number l ≡ false
  unfolding first_slot
  present-none [] h = refl
  present-none (x ∷ l) h = by_test (decided (is_numbered number x)) (present-none l) h
    where
      by_test : Test (is_numbered number x) → (first_slot (is_numbered number) l ≡ length l → present number l ≡ false)
          → first_slot (is_numbered number) (x ∷ l) ≡ suc (length l) → present number (x ∷ l) ≡ false
      by_test (inl e) more h = absurd (let g : ◌≡◌ {A = ℕ} 0 (suc (length l)) = rw e at h in omega (arith, g))
      by_test (inr e) more h = rw e (more (let g : suc (first_slot (is_numbered number) l) ≡ suc (length l) = rw e at h in omega (arith, g)))

-- and so on the words of slots
slots-long : (len : ℕ) (t : List ℕ) → length (slots len t) ≡ len
unfolding slots rows
slots-long zero t = refl
slots-long (suc len) t = ap suc (slots-long len (drop slot_size t))

slots_at : (d : InTransit) (len : ℕ) (t : List ℕ) (i : ℕ) → i < len → get_or (slots len t) i d ≡ slot_at t i
unfolding slots rows
slots_at d zero t i h = absurd (omega arith)
slots_at d (suc len) t zero h = refl
slots_at d (suc len) t (suc i) h = slots_at d len (drop slot_size t) i (omega arith) ∙ slot-behind t i

module _ (number len : ℕ) (t : List ℕ) (r : ℕ) where
  pub finds_pending : r ≡ first_slot (is_pending number) (slots len t) → FindsPending number len t r
  finds_pending e =
      let n = slots-long len t in
      let d : InTransit = slot_at t 0 in
      let at : r < len → get_or (slots len t) (first_slot (is_pending number) (slots len t)) d ≡ slot_at t r = λ h. rw (← e) (slots_at d len t r h) in
      record {
        within = omega (arith, e, n, first-few (is_pending number) (slots len t));
        numbered = λ h. let p = first_passes (is_pending number) d (slots len t) (omega (arith, e, n, h)) in
            let q : is_pending number (slot_at t r) ≡ true = rw (at h) at p in
            eqb-true (slot_at t r).number number (both (eqb (slot_at t r).number number) (not (slot_at t r).delivered) q).0;
        found = λ h. pending-at number d (slots len t) (omega (arith, e, n, h)) ∙ ap (λ (x : InTransit). Some x.message) (at h);
        missing = λ h. pending-none number (slots len t) (omega (arith, e, n, h));
      }

  pub finds_present : r ≡ first_slot (is_numbered number) (slots len t) → FindsPresent number len t r
  finds_present e =
      let n = slots-long len t in
      let d : InTransit = slot_at t 0 in
      let at : r < len → get_or (slots len t) (first_slot (is_numbered number) (slots len t)) d ≡ slot_at t r = λ h. rw (← e) (slots_at d len t r h) in
      record {
        within = omega (arith, e, n, first-few (is_numbered number) (slots len t));
        numbered = λ h. let p = first_passes (is_numbered number) d (slots len t) (omega (arith, e, n, h)) in
            let q : is_numbered number (slot_at t r) ≡ true = rw (at h) at p in
            eqb-true (slot_at t r).number number q;
        found = λ h. present-at number (slots len t) (omega (arith, e, n, h));
        missing = λ h. present-none number (slots len t) (omega (arith, e, n, h));
      }
