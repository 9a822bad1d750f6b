-- A server's restart, entry by entry: after k of its entries the first k messages at its place are pending, and after all of them the messages are
-- what the system says, for a server's place is no other receiver's.
use Prim.Native.Nat.{ℕ, zero, suc, ◌+◌, ◌-◌, ◌<◌, ◌≤◌}
use native.Mathlib.Omega.{arith}
use mathlib.Core.Path.{◌≡◌, refl, sym, ap, ◌∙◌}
use mathlib.Core.Logic.{inl, inr}
use mathlib.Core.Bool.{Bool, true, false}
use mathlib.Core.List.{List, [], ◌∷◌, ◌++◌, map}
use lib.Dec.{eqb}
use lib.ListN.{length, length-append}
use borrow.Author.Tests.{eq-eqb}
use Rattle.std.specs.Prelude.{if◌then◌else◌}
use Rattle.ids.specs.declared.ServerId.{ServerId}
use Rattle.ids.proofs.Choice.{decided, Test}
use Rattle.system.specs.Transit.{InTransit, is_for, again}
use Rattle.system.specs.declared.Receiver.TheVariants.{Server}
use Rattle.system.proofs.Tokens.{All, empty, more}
use Rattle.system.proofs.Touched.{for_server}
use Rattle.sim_transit.proofs.Kept.{Kept, names-named, valid-kept}
use Rattle.sim_index.specs.Index.{sorted, of_place, receivers}
use Rattle.sim_index.specs.Calls.{start_of}
use Rattle.sim_indexed.specs.Indexed.{table, in_transit, card_of}
use Rattle.sim_indexed.specs.Calls.{Few, Valid, Held, Place, Restarts}
use Rattle.sim_indexed.specs.Inner.{EntryAt, Pends, entry_place}
use Rattle.sim_indexed.proofs.IndexedLaws.{lent, held-parts}
use Rattle.sim_indexed.proofs.EntriesLaws.{many, begins, many-own, many-other, Found, found, first-is, last-is}
use Rattle.sim_indexed.proofs.ReceiverLaws.{to_place}

-- the message is pending
abbrev pended : InTransit → InTransit
pended x = record { number = x.number; delivered = false; message = x.message }

-- the first k messages at place p are pending
pub up_to : ℕ → ℕ → List InTransit → List InTransit
up_to zero p l = l
up_to (suc k) p [] = []
up_to (suc k) p (x ∷ l) = if eqb (card_of x).place p then pended x ∷ up_to k p l else x ∷ up_to (suc k) p l

-- the first message is at that place, or it is not
module _ (p : ℕ) (x : InTransit) (l : List InTransit) where
  upto_own : (k : ℕ) → eqb (card_of x).place p ≡ true → up_to (suc k) p (x ∷ l) ≡ pended x ∷ up_to k p l
  unfolding up_to
  upto_own k e = rw e

  upto_other : (k : ℕ) → eqb (card_of x).place p ≡ false → up_to k p (x ∷ l) ≡ x ∷ up_to k p l
  unfolding up_to
  upto_other zero e = refl
  upto_other (suc k) e = rw e

-- those of a are pending, and then k of l
upto_past : (p k : ℕ) (a l : List InTransit) → up_to (k + many p a) p (a ++ l) ≡ up_to (many p a) p a ++ up_to k p l
unfolding up_to of_place
upto_past p k [] l = let z : k + 0 ≡ k = omega arith in rw z
upto_past p k (x ∷ a) l = by_test (decided (eqb (card_of x).place p)) (upto_past p k a l)
  where
    by_test : Test (eqb (card_of x).place p) → up_to (k + many p a) p (a ++ l) ≡ up_to (many p a) p a ++ up_to k p l
        → up_to (k + many p (x ∷ a)) p (x ∷ (a ++ l)) ≡ up_to (many p (x ∷ a)) p (x ∷ a) ++ up_to k p l
    by_test (inl e) r =
        let z : k + suc (many p a) ≡ suc (k + many p a) = omega arith in
        rw (many-own p x a e, z, upto_own p x (a ++ l) (k + many p a) e, upto_own p x a (many p a) e, r)
    by_test (inr e) r = rw (many-other p x a e, upto_other p x (a ++ l) (k + many p a) e, upto_other p x a (many p a) e, r)

-- no message changes its place
many_more : (q : ℕ) (x y : InTransit) (a b : List InTransit) → (card_of x).place ≡ (card_of y).place → many q a ≡ many q b
    → many q (x ∷ a) ≡ many q (y ∷ b)
many_more q x y a b e f = by_test (decided (eqb (card_of y).place q))
  where
    by_test : Test (eqb (card_of y).place q) → many q (x ∷ a) ≡ many q (y ∷ b)
    by_test (inl h) = many-own q x a (ap (λ (s : ℕ). eqb s q) e ∙ h) ∙ (ap suc f ∙ sym (many-own q y b h))
    by_test (inr h) = many-other q x a (ap (λ (s : ℕ). eqb s q) e ∙ h) ∙ (f ∙ sym (many-other q y b h))

many-same : (q k p : ℕ) (l : List InTransit) → many q (up_to k p l) ≡ many q l
unfolding up_to
many-same q zero p l = refl
many-same q (suc k) p [] = refl
many-same q (suc k) p (x ∷ l) = go (eqb (card_of x).place p) (many-same q k p l) (many-same q (suc k) p l)
  where
    go : (t : Bool) → many q (up_to k p l) ≡ many q l → many q (up_to (suc k) p l) ≡ many q l
        → many q (if t then pended x ∷ up_to k p l else x ∷ up_to (suc k) p l) ≡ many q (x ∷ l)
    go true a b = many_more q (pended x) x (up_to k p l) l refl a
    go false a b = many_more q x x (up_to (suc k) p l) l refl b

sorted-same : (n k p : ℕ) (l : List InTransit) → length (sorted n (map card_of (up_to k p l))) ≡ length (sorted n (map card_of l))
unfolding sorted
sorted-same zero k p l = refl
sorted-same (suc n) k p l =
    omega (
      arith,
      sorted-same n k p l,
      many-same n k p l,
      length-append (sorted n (map card_of (up_to k p l))) (of_place n (map card_of (up_to k p l))),
      length-append (sorted n (map card_of l)) (of_place n (map card_of l)),
    )

-- message k, when those before it are pending; then it is too
module _ {p k : ℕ} {l : List InTransit} (F : Found p k l) where
  abbrev pending : List InTransit
  pending = up_to (many p F.before) p F.before

  next_split : up_to k p l ≡ pending ++ (F.message ∷ F.behind)
  unfolding up_to
  next_split =
      let e = upto_past p 0 F.before (F.message ∷ F.behind) in
      let z : 0 + many p F.before ≡ k = omega (arith, F.count) in
      rw (← F.whole, z) at e

  next-pended : up_to (suc k) p l ≡ pending ++ (pended F.message ∷ F.behind)
  unfolding up_to
  next-pended =
      let e = upto_past p 1 F.before (F.message ∷ F.behind) in
      let z : 1 + many p F.before ≡ suc k = omega (arith, F.count) in
      let own = upto_own p F.message F.behind 0 (eq-eqb (card_of F.message).place p F.place) in
      rw (← F.whole, z) at e ∙ ap (λ (r : List InTransit). pending ++ r) own

  next_place : begins p l + k ≡ entry_place pending F.message F.behind
  next_place =
      let c = many-same p (many p F.before) p F.before in
      rw (F.place, ← next_split) (omega (arith, sorted-same p k p l, c, F.count))

-- all of a server's messages are pending as after its restart: its place is no other receiver's
module _ (j : ServerId) (J : Place j) where
  abbrev p : ℕ
  p = j.0 - 1

  upto_all : {n clients sent : ℕ} {l : List InTransit} → Few n clients → All (Kept n clients sent) l → up_to (many p l) p l ≡ map (again j) l
  unfolding up_to of_place
  upto_all F empty = refl
  upto_all {n} {clients} F (more {x = x} {l = l} h g) =
      let f = to_place n clients F (Server j) (J.first, J.last) x.message (names-named n clients x.message h.named) in
      by_test (decided (eqb (card_of x).place p)) (for_server j x.message ∙ f) (upto_all F g)
    where
      by_test : Test (eqb (card_of x).place p) → is_for j x.message ≡ eqb (card_of x).place p → up_to (many p l) p l ≡ map (again j) l
          → up_to (many p (x ∷ l)) p (x ∷ l) ≡ again j x ∷ map (again j) l
      by_test (inl e) f r = rw (many-own p x l e, upto_own p x l (many p l) e, f ∙ e, r)
      by_test (inr e) f r = rw (many-other p x l e, upto_other p x l (many p l) e, f ∙ e, r)

-- j's place is one of the index's
pub server-there : (j : ServerId) → Place j → j.0 - 1 < receivers
server-there j J = omega (arith, J.first, J.last)

-- what `restart` knows before entry `at`: the first k messages at place p are pending
pub record Restarting (len p end : ℕ) (o t : List ℕ) (at : ℕ) : Type 0 where
  pub held : Held len o
  pub k : ℕ
  pub within : k ≤ many p (in_transit len o)
  pub here : at ≡ begins p (in_transit len o) + k
  pub last : end ≡ begins p (in_transit len o) + many p (in_transit len o)
  pub valid : (n clients sent : ℕ) → Few n clients → Valid n clients sent len o → Valid n clients sent len t
  pub so_far : in_transit len t ≡ up_to k p (in_transit len o)

module _ (len at end : ℕ) (o : List ℕ) where
  abbrev l : List InTransit
  l = in_transit len o

  pub restarting_none : Held len o → (j : ServerId) → Place j → at ≡ start_of (j.0 - 1) (lent o) → end ≡ start_of (j.0 - 1 + 1) (lent o)
      → Restarting len (j.0 - 1) end o o at
  unfolding up_to
  restarting_none H j J e f =
      record {
        held = H;
        k = 0;
        within = omega arith;
        here = omega (arith, e, first-is len o H (j.0 - 1) (server-there j J));
        last = f ∙ last-is len o H (j.0 - 1) (server-there j J);
        valid = λ n clients sent F v. v;
        so_far = refl;
      }

  module _ (p : ℕ) (t : List ℕ) (R : Restarting len p end o t at) where
    abbrev H : Held len o
    H = R.held

    its-valid : Valid H.n H.clients H.sent len t
    its-valid = R.valid H.n H.clients H.sent H.few H.valid

    -- entry `at` is the next message's
    module _ (more : at < end) where
      next : Found p R.k l
      next = found p R.k l (omega (arith, R.here, R.last))

      whole : in_transit len t ≡ pending next ++ (next.message ∷ next.behind)
      whole = R.so_far ∙ next_split next

      its-entry : at ≡ entry_place (pending next) next.message next.behind
      its-entry = R.here ∙ next_place next

      pub restarting_entry : EntryAt len at t
      restarting_entry = record {
        n = H.n;
        clients = H.clients;
        sent = H.sent;
        few = H.few;
        valid = its-valid;
        before = pending next;
        message = next.message;
        behind = next.behind;
        whole = whole;
        here = its-entry;
      }

      pub restarting_more : (t' : List ℕ) → Pends len at t t' → Restarting len p end o t' (at + 1)
      restarting_more t' P = record {
        held = H;
        k = suc R.k;
        within = omega (arith, R.here, R.last);
        here = omega (arith, R.here);
        last = R.last;
        valid = λ n clients sent F v. P.valid n clients sent F (R.valid n clients sent F v);
        so_far =
            P.after H.n H.clients H.sent H.few its-valid (pending next) next.message next.behind whole its-entry ∙
            sym (next-pended next);
      }

    pub restarting_all : end ≤ at → (j : ServerId) → Place j → p ≡ j.0 - 1 → Restarts len j o t
    restarting_all h j J e =
        let z : R.k ≡ many p l = omega (arith, R.here, R.last, R.within) in
        let a = rw (← e) at (upto_all j J H.few (valid-kept H.n H.clients H.sent len (table o) (held-parts H).fit)) in
        record {
          valid = R.valid;
          after = λ n clients sent F v. R.so_far ∙ (ap (λ (k : ℕ). up_to k p l) z ∙ a);
        }
