-- A valid record from its tests, and what a valid record is good for; a record and the state it holds are one another.
use Rattle.std.specs.Prelude.{Some, None, Option}
use Prim.Native.Nat.{ℕ, ◌*◌, ◌<◌, ◌≤◌}
use native.Mathlib.Omega.{arith}
use mathlib.Core.Path.{◌≡◌, refl, sym, ap, ◌∙◌}
use mathlib.Core.Bool.{Bool, true, false, ◌&&◌}
use mathlib.Core.List.{List, ◌∷◌}
use mathlib.Core.Logic.{⊎_elim}
use lib.Dec.{eqb, ltb}
use lib.ListN.{length}
use borrow.Author.Tests.{eq-eqb, ne_eqb, ltb-true, ltb-false}
use Rattle.ids.specs.Limits.{within, max_servers, valid_owner, valid_request}
use Rattle.ids.specs.Lists.{every}
use Rattle.ids.specs.Requests.{by_owner}
use Rattle.ids.specs.declared.Request.{Request}
use Rattle.ids.specs.declared.ServerId.{ServerId}
use Rattle.ids.proofs.Choice.{both, decided}
use Rattle.rows.specs.Rows.{queue_of, row_of, Padded}
use Rattle.rows.specs.Good.{good_row}
use Rattle.rows.specs.Queues.{is_client, first}
use Rattle.rows.proofs.ListLaws.{first-within}
use Rattle.rows.proofs.QueueLaws.{length-queue}
use Rattle.rows.proofs.GoodLaws.{good-padded}
use Rattle.rows.proofs.RowLaws.{row_kept, row_of-queue}
use Rattle.server_votes.specs.declared.Votes.{Votes}
use Rattle.server_votes.specs.Figure1.{State, candidates}
use Rattle.server_votes.specs.Queues.{view}
use Rattle.server_votes.proofs.ListLaws.{timestamp-first, timestamp-none}
use Rattle.server.specs.declared.Head.{Head}
use Rattle.server.specs.declared.Server.{Server}
use Rattle.server.specs.Record.{ordered, once, valid_state, valid_sizes_up_to, server_of, store_in, valid_up_to, valid}
use Rattle.server.specs.Record.{view as record_view}
use Rattle.server.specs.Inner.{repeats, fits_owner}
use Rattle.server.proofs.ValidLaws.{once_cons}

and_false : (a : Bool) → a && false ≡ false
and_false true = refl
and_false false = refl

-- the owner's tests, gathered
owner_tests : (o : Option Request) (l : List Request) (a d : Bool)
    → a && by_owner o (eqb (length l) 0) (λ r. true) && d && once (candidates (record { owner = o; queue = l })) ≡ a && fits_owner o l && d && once l
owner_tests None l a d = refl
owner_tests (Some r) l a d =
    ⊎_elim
    (λ (t : repeats (r ∷ l) ≡ true). rw (once_cons r l true t, t, and_false, and_false))
    (λ (t : repeats (r ∷ l) ≡ false). rw (once_cons r l false t, t))
    (decided (repeats (r ∷ l)))

pub state_tests : (o : Option Request) (l : List Request)
    → valid_state (record { owner = o; queue = l }) ≡ valid_owner o && every valid_request l && fits_owner o l && ordered l && once l
unfolding valid_state
state_tests o l = owner_tests o l (valid_owner o && every valid_request l) (ordered l)

-- five tests in a row
module _ (a b c d e : Bool) where
  pub fails_1 : a ≡ false → false ≡ a && b && c && d && e
  fails_1 p = rw p

  pub fails_2 : a ≡ true → b ≡ false → false ≡ a && b && c && d && e
  fails_2 p q = rw (p, q)

  pub fails_3 : a ≡ true → b ≡ true → c ≡ false → false ≡ a && b && c && d && e
  fails_3 p q r = rw (p, q, r)

  pub fails_4 : a ≡ true → b ≡ true → c ≡ true → d ≡ false → false ≡ a && b && c && d && e
  fails_4 p q r s = rw (p, q, r, s)

  pub passes_4 : a ≡ true → b ≡ true → c ≡ true → d ≡ true → e ≡ a && b && c && d && e
  passes_4 p q r s = rw (p, q, r, s)

-- the owner's test, by its client's place in the row
module _ (row : List ℕ) (len : ℕ) (good : Padded row len) (o : Option Request) where
  pub fits_nobody : o ≡ None → eqb len 0 ≡ fits_owner o (queue_of row len)
  fits_nobody e = rw (e, length-queue row len good)

  pub fits-owner : (r : Request) (at : ℕ) → o ≡ Some r → at ≡ first (is_client r.client) (queue_of row len) → eqb at len ≡ fits_owner o (queue_of row len)
  fits-owner r at e p =
      let n = length-queue row len good in
      let f : ℕ = first (is_client r.client) (queue_of row len) in
      let u : f ≤ length (queue_of row len) = first-within (is_client r.client) (queue_of row len) in
      ⊎_elim
      (λ (t : ltb f (length (queue_of row len)) ≡ true).
      let b : f < length (queue_of row len) = ltb-true _ _ t in
      let c : at ≡ len → ⊥ = omega arith in
      ne_eqb _ _ c ∙ sym (rw (e, timestamp-first r.client (queue_of row len) b)))
      (λ (t : ltb f (length (queue_of row len)) ≡ false).
      let b : length (queue_of row len) ≤ f = ltb-false _ _ t in
      let c : at ≡ len = omega arith in
      eq-eqb _ _ c ∙ sym (rw (e, timestamp-none r.client (queue_of row len) b)))
      (decided (ltb f (length (queue_of row len))))

module _ (v : Votes) (row : List ℕ) (a : Bool) (p : a ≡ valid_owner v.owner) where
  tests : valid_state (view v row) ≡ valid_owner v.owner && every valid_request (queue_of row v.len) && fits_owner v.owner
      (queue_of row v.len) && ordered (queue_of row v.len) && once (queue_of row v.len)
  tests = state_tests v.owner (queue_of row v.len)

  pub votes_1 : a ≡ false → false ≡ valid_state (view v row)
  votes_1 n = rw tests (fails_1 _ _ _ _ _ (sym p ∙ n))

  module _ (na : a ≡ true) (b : Bool) (q : b ≡ every valid_request (queue_of row v.len)) where
    pub votes_2 : b ≡ false → false ≡ valid_state (view v row)
    votes_2 n = rw tests (fails_2 _ _ _ _ _ (sym p ∙ na) (sym q ∙ n))

    module _ (nb : b ≡ true) (c : Bool) (r : c ≡ fits_owner v.owner (queue_of row v.len)) where
      pub votes_3 : c ≡ false → false ≡ valid_state (view v row)
      votes_3 n = rw tests (fails_3 _ _ _ _ _ (sym p ∙ na) (sym q ∙ nb) (sym r ∙ n))

      module _ (nc : c ≡ true) (d : Bool) (s : d ≡ ordered (queue_of row v.len)) where
        pub votes_4 : d ≡ false → false ≡ valid_state (view v row)
        votes_4 n = rw tests (fails_4 _ _ _ _ _ (sym p ∙ na) (sym q ∙ nb) (sym r ∙ nc) (sym s ∙ n))

        pub votes_5 : (e : Bool) → d ≡ true → e ≡ once (queue_of row v.len) → e ≡ valid_state (view v row)
        votes_5 e n t = t ∙ rw tests (passes_4 _ _ _ _ _ (sym p ∙ na) (sym q ∙ nb) (sym r ∙ nc) (sym s ∙ n))

module _ (limit : ℕ) (h : Head) (row : List ℕ) (a : Bool) (p : a ≡ within h.n limit) where
  pub server_1 : a ≡ false → false ≡ valid_up_to limit (server_of h row)
  unfolding valid_up_to
  server_1 n = rw (sym p ∙ n)

  module _ (na : a ≡ true) (b : Bool) (q : b ≡ within h.id.0 h.n) where
    pub server_2 : b ≡ false → false ≡ valid_up_to limit (server_of h row)
    unfolding valid_up_to
    server_2 n = rw (sym p ∙ na, sym q ∙ n)

    module _ (nb : b ≡ true) (c : Bool) (r : c ≡ good_row row h.votes.len) where
      pub server_3 : c ≡ false → false ≡ valid_up_to limit (server_of h row)
      unfolding valid_up_to
      server_3 n = rw (sym p ∙ na, sym q ∙ nb, sym r ∙ n)

      pub server_4 : (d : Bool) → c ≡ true → d ≡ valid_state (view h.votes row) → d ≡ valid_up_to limit (server_of h row)
      unfolding valid_up_to
      server_4 d n t = rw (sym p ∙ na, sym q ∙ nb, sym r ∙ n) t

pub row-padded : (row : List ℕ) (len : ℕ) (b : Bool) → b ≡ good_row row len → b ≡ true → Padded row len
row-padded row len b e n = good-padded row len (sym e ∙ n)

-- the parts of a valid record: its numbers, its row and its state
module _ (limit : ℕ) (x : Server) (v : valid_up_to limit x ≡ true) where
  sizes_and_row : valid_sizes_up_to limit x.head.n x.head.id && good_row x.row x.head.votes.len ≡ true
  unfolding valid_up_to
  sizes_and_row = (both (valid_sizes_up_to limit x.head.n x.head.id && good_row x.row x.head.votes.len)
      (valid_state (view x.head.votes x.row)) v).0

  pub valid-sized : valid_sizes_up_to limit x.head.n x.head.id ≡ true
  valid-sized = (both (valid_sizes_up_to limit x.head.n x.head.id) (good_row x.row x.head.votes.len) sizes_and_row).0

  pub valid-padded : Padded x.row x.head.votes.len
  valid-padded = good-padded x.row x.head.votes.len
      (both (valid_sizes_up_to limit x.head.n x.head.id) (good_row x.row x.head.votes.len) sizes_and_row).1

  pub valid-state : valid_state (view x.head.votes x.row) ≡ true
  unfolding valid_up_to
  valid-state = (both (valid_sizes_up_to limit x.head.n x.head.id && good_row x.row x.head.votes.len)
      (valid_state (view x.head.votes x.row)) v).1

-- a valid server's row is in good order
pub server-padded : (x : Server) (b : Bool) → b ≡ valid x → b ≡ true → Padded x.row x.head.votes.len
server-padded x b e n = valid-padded max_servers x (sym e ∙ n)

-- a record, by its head
pub with-head : (row : List ℕ) (h d : Head) → h ≡ d → server_of h row ≡ server_of d row
with-head row h d e = rw e

-- a stored state is seen again, and storing what a record shows gives the record again
pub view-store : (places n : ℕ) (j : ServerId) (q : State) → length q.queue ≤ places → record_view (store_in places n j q) ≡ q
view-store places n j q h = let e = row_of-queue places q.queue h in λ i. record { owner = q.owner; queue = e i }

pub store_view : (places : ℕ) (s : Server) → length s.row ≡ 2 * places → Padded s.row s.head.votes.len
    → store_in places s.head.n s.head.id (record_view s) ≡ s
store_view places s long good =
    let l = length-queue s.row s.head.votes.len good in
    let r = ap (λ (size : ℕ). row_of size (queue_of s.row s.head.votes.len)) (sym long) ∙ row_kept s.row s.head.votes.len good in
    λ i. server_of (record { n = s.head.n; id = s.head.id; votes = record { owner = s.head.votes.owner; len = l i } }) (r i)
