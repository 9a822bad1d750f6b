-- Different clients with numbers from 1 to c are at most c: without the one with number c they are numbered from 1 to c - 1. So a queue with a place
-- for each client is never full.
use Prim.Native.Nat.{ℕ, zero, suc, ◌≤◌}
use native.Mathlib.Omega.{arith}
use mathlib.Core.Path.{◌≡◌}
use mathlib.Core.Bool.{Bool, true, false}
use mathlib.Core.List.{List, [], ◌∷◌}
use mathlib.Core.Logic.{⊎_elim}
use lib.Dec.{eqb, leb}
use lib.ListN.{length}
use borrow.Author.Tests.{eqb-true, eqb-false, leb-true, leb-false}
use Rattle.std.specs.Prelude.{if◌then◌else◌, Some, None, Option}
use Rattle.ids.specs.Lists.{every}
use Rattle.ids.specs.Limits.{valid_request, valid_owner}
use Rattle.ids.specs.declared.ClientId.{ClientId}
use Rattle.ids.specs.declared.Request.{Request}
use Rattle.ids.proofs.Choice.{both, decided}
use Rattle.ids.proofs.LimitsLaws.{request-range, client-range}
use Rattle.rows.specs.Queue.{timestamp_in}
use Rattle.server_votes.specs.Figure1.{State, candidates}
use Rattle.server.proofs.KeepsValid.{Good, Single}

-- the clients are numbered from 1 to c
abbrev Within : ℕ → List Request → Type 0
Within c [] = Unit {0}
Within c (x ∷ l) = (1 ≤ x.client.0) × (x.client.0 ≤ c) × Within c l

-- the list without client k's request
abbrev others : ℕ → List Request → List Request
others k [] = []
others k (x ∷ l) = if eqb x.client.0 k then l else x ∷ others k l

one_less : (k : ℕ) (l : List Request) → length l ≤ suc (length (others k l))
one_less k [] = omega arith
one_less k (x ∷ l) =
    ⊎_elim
    (λ (t : eqb x.client.0 k ≡ true). rw t (omega arith))
    (λ (t : eqb x.client.0 k ≡ false). rw t (omega (arith, one_less k l)))
    (decided (eqb x.client.0 k))

-- a client that does not stand in a list
absent_cons : (i : ClientId) (x : Request) (l : List Request) → timestamp_in i (x ∷ l) ≡ None → (eqb x.client.0 i.0 ≡ false) × (timestamp_in i l ≡ None)
unfolding timestamp_in
absent_cons i x l h =
    ⊎_elim
    (λ (t : eqb x.client.0 i.0 ≡ true). let e = rw t at h in let z : ◌≡◌ {A = ℕ} 0 1 = cc in absurd (omega arith))
    (λ (t : eqb x.client.0 i.0 ≡ false). (t, rw t at h))
    (decided (eqb x.client.0 i.0))

absent_more : (i : ClientId) (x : Request) (l : List Request) → eqb x.client.0 i.0 ≡ false → timestamp_in i l ≡ None → timestamp_in i (x ∷ l) ≡ None
unfolding timestamp_in
absent_more i x l t h = rw t h

absent_others : (k : ℕ) (i : ClientId) (l : List Request) → timestamp_in i l ≡ None → timestamp_in i (others k l) ≡ None
absent_others k i [] h = h
absent_others k i (x ∷ l) h =
    let (e, g) = absent_cons i x l h in
    ⊎_elim
    (λ (t : eqb x.client.0 k ≡ true). rw t g)
    (λ (t : eqb x.client.0 k ≡ false). rw t (absent_more i x (others k l) e (absent_others k i l g)))
    (decided (eqb x.client.0 k))

single_others : (k : ℕ) (l : List Request) → Single l → Single (others k l)
single_others k [] s = tt
single_others k (x ∷ l) s =
    ⊎_elim
    (λ (t : eqb x.client.0 k ≡ true). rw t s.1)
    (λ (t : eqb x.client.0 k ≡ false). rw t (absent_others k x.client l s.0, single_others k l s.1))
    (decided (eqb x.client.0 k))

-- a list that client c + 1 does not stand in is numbered from 1 to c
lower : (c : ℕ) (i : ClientId) (l : List Request) → i.0 ≡ suc c → timestamp_in i l ≡ None → Within (suc c) l → Within c l
lower c i [] e h w = tt
lower c i (x ∷ l) e h w =
    let (d, g) = absent_cons i x l h in
    let n : x.client.0 ≡ i.0 → ⊥ = eqb-false x.client.0 i.0 d in
    (w.0, less x.client.0 i.0 n e w.1, lower c i l e g w.2)
  where
    less : (a b : ℕ) → (a ≡ b → ⊥) → b ≡ suc c → a ≤ suc c → a ≤ c
    less a b n f h = ⊎_elim (λ (t : eqb a b ≡ true). absurd (n (eqb-true a b t))) (λ (t : eqb a b ≡ false). omega arith) (decided (eqb a b))

within-others : (c : ℕ) (l : List Request) → Single l → Within (suc c) l → Within c (others (suc c) l)
within-others c [] s w = tt
within-others c (x ∷ l) s w =
    ⊎_elim
    (λ (t : eqb x.client.0 (suc c) ≡ true). rw t (lower c x.client l (eqb-true x.client.0 (suc c) t) s.0 w.2))
    (λ (t : eqb x.client.0 (suc c) ≡ false). let n = eqb-false x.client.0 (suc c) t in rw t
    (w.0, less x.client.0 n w.1, within-others c l s.1 w.2))
    (decided (eqb x.client.0 (suc c)))
  where
    less : (a : ℕ) → (a ≡ suc c → ⊥) → a ≤ suc c → a ≤ c
    less a n h = ⊎_elim (λ (t : leb a c ≡ true). leb-true a c t)
        (λ (t : leb a c ≡ false). absurd (n (let z : a ≡ suc c = omega (arith, leb-false a c t) in z))) (decided (leb a c))

pub few_clients : (c : ℕ) (l : List Request) → Single l → Within c l → length l ≤ c
few_clients zero [] s w = omega arith
few_clients zero (x ∷ l) s w = absurd (omega (arith, w.0, w.1))
few_clients (suc c) l s w = omega (arith, one_less (suc c) l, few_clients c (others (suc c) l) (single_others (suc c) l s) (within-others c l s w))

-- r is a request of one of the clients up to c
abbrev pub up_to : ℕ → Request → Bool
up_to c r = leb r.client.0 c

-- the candidates of a good state that names clients up to c
within_all : (c : ℕ) (l : List Request) → every valid_request l ≡ true → every (up_to c) l ≡ true → Within c l
within_all c [] v h = tt
within_all c (x ∷ l) v h =
    let (a, v') = both (valid_request x) (every valid_request l) v in
    let (b, h') = both (up_to c x) (every (up_to c) l) h in
    ((client-range x.client (request-range x a).0).0, leb-true x.client.0 c b, within_all c l v' h')

candidates-valid : (o : Option Request) (l : List Request) → valid_owner o ≡ true → every valid_request l ≡ true
    → every valid_request (candidates (record { owner = o; queue = l })) ≡ true
unfolding valid_owner
candidates-valid None l v h = h
candidates-valid (Some r) l v h = rw v h

longer : (o : Option Request) (l : List Request) → length l ≤ length (candidates (record { owner = o; queue = l }))
longer None l = omega arith
longer (Some r) l = omega arith

pub queue-fits : (c : ℕ) (q : State) → Good q → every (up_to c) (candidates q) ≡ true → length q.queue ≤ c
queue-fits c q g h =
    omega (
      arith,
      longer q.owner q.queue,
      few_clients c (candidates q) g.single (within_all c (candidates q) (candidates-valid q.owner q.queue g.owner g.all) h),
    )
