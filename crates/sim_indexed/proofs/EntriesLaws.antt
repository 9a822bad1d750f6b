-- One receiver's entries: where they begin and end is told by the counts, and entry k of them, counted from 0, is that of the k-th message at the
-- receiver's place.
use Prim.Native.Nat.{ℕ, zero, suc, ◌+◌, ◌<◌, ◌≤◌}
use native.Mathlib.Numerals.{add-one}
use native.Mathlib.Omega.{arith}
use mathlib.Core.Path.{◌≡◌, refl, ap, ◌∙◌}
use mathlib.Core.Logic.{inl, inr}
use mathlib.Core.Bool.{true, false}
use mathlib.Core.List.{List, [], ◌∷◌, ◌++◌, map}
use lib.Dec.{eqb}
use lib.ListN.{length, length-map, length-append}
use borrow.Author.Tests.{eqb-true}
use Rattle.ids.proofs.Choice.{decided, Test}
use Rattle.system.specs.Limits.{system_messages}
use Rattle.system.specs.Transit.{InTransit}
use Rattle.sim_transit.proofs.Kept.{length-slots}
use Rattle.sim_index.specs.Index.{receivers, index_size, sorted, of_place}
use Rattle.sim_index.specs.Calls.{start_of}
use Rattle.sim_index.proofs.Means.{start_is, sorted-few}
use Rattle.sim_indexed.specs.Indexed.{table, in_transit, card_of}
use Rattle.sim_indexed.specs.Calls.{Held}
use Rattle.sim_indexed.specs.Inner.{entry_place}
use Rattle.sim_indexed.proofs.IndexedLaws.{lent, lent-index, lent-long, held-parts, held-few}

-- how many messages are at place p, and how many at the places before it
abbrev pub many : ℕ → List InTransit → ℕ
many p l = length (of_place p (map card_of l))

abbrev pub begins : ℕ → List InTransit → ℕ
begins p l = length (sorted p (map card_of l))

-- the first message is at that place, or it is not
module _ (p : ℕ) (x : InTransit) (l : List InTransit) where
  pub many-own : eqb (card_of x).place p ≡ true → many p (x ∷ l) ≡ suc (many p l)
  unfolding of_place
  many-own e = rw e

  pub many-other : eqb (card_of x).place p ≡ false → many p (x ∷ l) ≡ many p l
  unfolding of_place
  many-other e = rw e

-- message k at place p, counted from 0, between the others
pub record Found (p k : ℕ) (l : List InTransit) : Type 0 where
  pub before : List InTransit
  pub message : InTransit
  pub behind : List InTransit
  pub whole : l ≡ before ++ (message ∷ behind)
  pub place : (card_of message).place ≡ p
  pub count : many p before ≡ k

pub found : (p k : ℕ) (l : List InTransit) → k < many p l → Found p k l
unfolding of_place
found p k [] h = absurd (omega (arith, h))
found p k (x ∷ l) h = by_test k (decided (eqb (card_of x).place p)) (λ m. found p m l) h
  where
    later : (k m : ℕ) (F : Found p m l) → many p (x ∷ F.before) ≡ k → Found p k (x ∷ l)
    later k m F e = record {
      before = x ∷ F.before;
      message = F.message;
      behind = F.behind;
      whole = ap (λ (r : List InTransit). x ∷ r) F.whole;
      place = F.place;
      count = e;
    }

    by_test : (k : ℕ) → Test (eqb (card_of x).place p) → ((m : ℕ) → m < many p l → Found p m l) → k < many p (x ∷ l) → Found p k (x ∷ l)
    by_test zero (inl e) go h = record { before = []; message = x; behind = l; whole = refl; place = eqb-true (card_of x).place p e; count = refl }
    by_test (suc k) (inl e) go h =
        let F = go k (omega (arith, h, many-own p x l e)) in
        later (suc k) k F (many-own p x F.before e ∙ ap suc F.count)
    by_test k (inr e) go h =
        let F = go k (omega (arith, h, many-other p x l e)) in
        later k k F (many-other p x F.before e ∙ F.count)

pub found-place : {p k : ℕ} {l : List InTransit} (F : Found p k l) → begins p l + k ≡ entry_place F.before F.message F.behind
found-place F = rw (F.place, ← F.whole) (omega (arith, F.count))

module _ (len : ℕ) (t : List ℕ) (H : Held len t) where
  starts : (p : ℕ) → p ≤ receivers → start_of p (lent t) ≡ begins p (in_transit len t)
  starts p h = rw (lent-index t H.size, (held-parts H).listed) (start_is p (map card_of (in_transit len t)) h)

  start-may : (p : ℕ) → p ≤ receivers → (length (lent t) ≡ index_size) × (p ≤ receivers) × (start_of p (lent t) ≤ system_messages)
  start-may p h =
      let n : length (map card_of (in_transit len t)) ≡ len = length-map (in_transit len t) card_of ∙ length-slots len (table t) in
      (lent-long t H.size, h, omega (arith, starts p h, sorted-few p (map card_of (in_transit len t)), n, held-few H))

  module _ (p : ℕ) (there : p < receivers) where
    pub first-may : (length (lent t) ≡ index_size) × (p ≤ receivers) × (start_of p (lent t) ≤ system_messages)
    first-may = start-may p (omega arith)

    pub last-may : (length (lent t) ≡ index_size) × (p + 1 ≤ receivers) × (start_of (p + 1) (lent t) ≤ system_messages)
    last-may = start-may (p + 1) (omega arith)

    pub first-is : start_of p (lent t) ≡ begins p (in_transit len t)
    first-is = starts p (omega arith)

    pub last-is : start_of (p + 1) (lent t) ≡ begins p (in_transit len t) + many p (in_transit len t)
    unfolding sorted
    last-is =
        let s : start_of (p + 1) (lent t) ≡ begins (suc p) (in_transit len t) = rw add-one (starts (suc p) there) in
        s ∙ length-append (sorted p (map card_of (in_transit len t))) (of_place p (map card_of (in_transit len t)))
