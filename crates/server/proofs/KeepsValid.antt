-- Every step of a valid server gives a valid server: insertion and removal keep a queue strictly in order and its clients apart.
use Prim.Native.Nat.{ℕ, suc, ◌*◌, ◌≤◌, zero-le}
use native.Mathlib.Omega.{arith}
use mathlib.Core.Path.{◌≡◌, refl, sym, ap, subst}
use mathlib.Core.Bool.{Bool, true, false, ◌&&◌}
use mathlib.Core.List.{List, [], ◌∷◌}
use mathlib.Core.Logic.{⊎_elim}
use lib.Dec.{eqb, leb, ltb}
use lib.ListN.{length, replicate, length-replicate}
use borrow.Author.Tests.{ltb-false, eqb-true, eqb-false, eq-eqb, ne_eqb}
use Rattle.ids.specs.Choice.{maybe}
use Rattle.std.specs.Prelude.{if◌then◌else◌, Some, None, Option}
use Rattle.ids.specs.Order.{before}
use Rattle.ids.specs.Limits.{max_servers, valid_request, valid_owner, valid_stamped_up_to, valid_client, valid_timestamp}
use Rattle.ids.specs.declared.Refusal.{Refusal}
use Rattle.ids.specs.declared.Refusal.TheVariants.{QueueFull, NotForServer, NumberOutOfRange, NoOwner}
use Rattle.ids.specs.Requests.{same, is_request, by_owner}
use Rattle.ids.specs.declared.ClientId.{ClientId}
use Rattle.ids.specs.declared.ServerId.{ServerId}
use Rattle.ids.specs.declared.Request.{Request as Pair}
use Rattle.ids.specs.declared.Timestamp.{Timestamp}
use Rattle.server_votes.proofs.EveryLaws.{every-insert, every-without}
use Rattle.ids.proofs.Choice.{clash, both, decided}
use Rattle.ids.proofs.OrderLaws.{before_order}
use Rattle.ids.proofs.RequestLaws.{same_true}
use Rattle.wire.specs.Step.{Step, Outcome, refused, stepped, stay, tell, ◌then◌}
use Rattle.wire.specs.declared.Message.{Message}
use Rattle.wire.specs.declared.Message.TheVariants.{Request, Yield, Release, Inquiry, Response, Check}
use Rattle.ids.proofs.LimitsLaws.{stamped_request}
use Rattle.wire.specs.Format as format
use Rattle.server_votes.specs.declared.Tag.{Tag}
use Rattle.server_votes.specs.declared.Tag.TheVariants.{Request as REQUEST, Yield as YIELD, Release as RELEASE, Inquiry as INQUIRY}
use Rattle.rows.specs.Rows.{requests_in, request_words, row_of, fits_place, Padded}
use Rattle.rows.specs.Queue.{timestamp_in, insert, without}
use Rattle.rows.proofs.ListLaws.{length_without}
use Rattle.rows.proofs.QueueLaws.{length-queue}
use Rattle.rows.proofs.GoodLaws.{padded-good}
use Rattle.rows.proofs.RowLaws.{row_of-holds}
use Rattle.server_votes.specs.Figure1.{State, idle, candidates, enqueue, promote, delete, inform, act, compare, receive, suspect, check}
use Rattle.server_votes.proofs.RoomLaws.{informed-state, length-deleted}
use Rattle.ids.specs.Lists.{every}
use Rattle.server.specs.declared.Head.{Head}
use Rattle.server.specs.declared.Server.{Server}
use Rattle.server.specs.Record.{ordered, once, behind_owner, valid_state, valid_sizes_up_to, valid_sizes, valid_up_to, valid, view, store_in, queue_places}
use Rattle.server.specs.Calls.{empty_server, held, taken, received, message_outcome_up_to, message_outcome, suspect_outcome, check_outcome, head_after, row_after, server_after}
use Rattle.server.proofs.RecordLaws.{valid-sized, valid-padded, valid-state}

-- x stands before the head of l
abbrev Above : Pair → List Pair → Type 0
Above x [] = Unit {0}
Above x (y ∷ l) = before x y ≡ true

-- strictly in order, and no client twice, as proofs
abbrev pub Sorted : List Pair → Type 0
Sorted [] = Unit {0}
Sorted (x ∷ l) = Above x l × Sorted l

abbrev pub Single : List Pair → Type 0
Single [] = Unit {0}
Single (x ∷ l) = (timestamp_in x.client l ≡ None) × Single l

ordered-sorted : (l : List Pair) → ordered l ≡ true → Sorted l
unfolding ordered
ordered-sorted [] e = tt
ordered-sorted (x ∷ []) e = (tt, tt)
ordered-sorted (x ∷ (y ∷ l)) e =
    let (a, b) = both (before x y) (ordered (y ∷ l)) e in
    (a, ordered-sorted (y ∷ l) b)

sorted-ordered : (l : List Pair) → Sorted l → ordered l ≡ true
unfolding ordered
sorted-ordered [] s = refl
sorted-ordered (x ∷ []) s = refl
sorted-ordered (x ∷ (y ∷ l)) s = rw s.0 (sorted-ordered (y ∷ l) s.1)

alone : (o : Option Timestamp) (b : Bool) → maybe o b (λ t. false) ≡ true → (o ≡ None) × (b ≡ true)
alone None b e = (refl, e)
alone (Some t) b e = clash false e refl

once_single : (l : List Pair) → once l ≡ true → Single l
unfolding once
once_single [] e = tt
once_single (x ∷ l) e =
    let (a, b) = alone (timestamp_in x.client l) (once l) e in
    (a, once_single l b)

single_once : (l : List Pair) → Single l → once l ≡ true
unfolding once
single_once [] s = refl
single_once (x ∷ l) s = rw s.0 (single_once l s.1)

-- a client that is not in a list is not its head's, nor in its tail
pub head-other : (k : ClientId) (x : Pair) (l : List Pair) (b : Bool) → eqb x.client.0 k.0 ≡ b → timestamp_in k (x ∷ l) ≡ None
    → (eqb x.client.0 k.0 ≡ false) × (timestamp_in k l ≡ None)
unfolding timestamp_in
head-other k x l true e n = let z : ◌≡◌ {A = Option Timestamp} (Some x.timestamp) None = rw e at n in let y : ◌≡◌ {A = ℕ} 0 1 = cc in absurd (omega arith)
head-other k x l false e n = (e, rw e at n)

absent_cons : (k : ClientId) (x : Pair) (l : List Pair) → eqb x.client.0 k.0 ≡ false → timestamp_in k l ≡ None → timestamp_in k (x ∷ l) ≡ None
unfolding timestamp_in
absent_cons k x l e n = rw e n

module _ (r : Pair) where
  -- of two different clients' requests one is before the other
  later : (x : Pair) → eqb x.client.0 r.client.0 ≡ false → before r x ≡ false → before x r ≡ true
  later x n f =
      ⊎_elim (λ (t : before r x ≡ true). clash (before r x) t f)
      (⊎_elim (λ (e : r ≡ x). absurd (eqb-false _ _ n (ap (λ (y : Pair). y.client.0) (sym e)))) (λ (t : before x r ≡ true). t)) (before_order.total r x)

  insert-above : (x : Pair) (l : List Pair) → Above x l → before x r ≡ true → Above x (insert r l)
  unfolding insert
  insert-above x [] a h = h
  insert-above x (y ∷ l) a h = ⊎_elim (λ (t : before r y ≡ true). rw t h) (λ (t : before r y ≡ false). rw t a) (decided (before r y))

  pub insert-sorted : (l : List Pair) → Sorted l → timestamp_in r.client l ≡ None → Sorted (insert r l)
  unfolding insert
  insert-sorted [] s n = (tt, tt)
  insert-sorted (x ∷ l) s n =
      let o = head-other r.client x l _ refl n in
      let rest = insert-sorted l s.1 o.1 in
      ⊎_elim (λ (t : before r x ≡ true). rw t (t, s)) (λ (t : before r x ≡ false). rw t (insert-above x l s.0 (later x o.0 t), rest))
      (decided (before r x))

  absent_insert : (k : ClientId) (l : List Pair) → eqb r.client.0 k.0 ≡ false → timestamp_in k l ≡ None → timestamp_in k (insert r l) ≡ None
  unfolding insert
  absent_insert k [] e n = absent_cons k r [] e n
  absent_insert k (x ∷ l) e n =
      let o = head-other k x l _ refl n in
      let rest = absent_insert k l e o.1 in
      ⊎_elim (λ (t : before r x ≡ true). rw t (absent_cons k r (x ∷ l) e n))
      (λ (t : before r x ≡ false). rw t (absent_cons k x (insert r l) o.0 rest)) (decided (before r x))

  flip : (a b : ℕ) → eqb a b ≡ false → eqb b a ≡ false
  flip a b e = ne_eqb b a (λ h. eqb-false a b e (sym h))

  pub insert_single : (l : List Pair) → Single l → timestamp_in r.client l ≡ None → Single (insert r l)
  unfolding insert
  insert_single [] s n = (n, tt)
  insert_single (x ∷ l) s n =
      let o = head-other r.client x l _ refl n in
      let rest = insert_single l s.1 o.1 in
      ⊎_elim (λ (t : before r x ≡ true). rw t (n, s))
      (λ (t : before r x ≡ false). rw t (absent_insert x.client l (flip x.client.0 r.client.0 o.0) s.0, rest))
      (decided (before r x))

  -- removal
  above_past : (x y : Pair) (l : List Pair) → before x y ≡ true → Above y l → Above x l
  above_past x y [] h a = tt
  above_past x y (z ∷ l) h a = before_order.transitive x y z h a

  without-above : (x : Pair) (l : List Pair) → Above x l → Sorted l → Above x (without r l)
  unfolding without
  without-above x [] a s = tt
  without-above x (y ∷ l) a s = ⊎_elim (λ (t : same y r ≡ true). rw t (above_past x y l a s.0)) (λ (t : same y r ≡ false). rw t a) (decided (same y r))

  pub without-sorted : (l : List Pair) → Sorted l → Sorted (without r l)
  unfolding without
  without-sorted [] s = tt
  without-sorted (x ∷ l) s =
      let rest = without-sorted l s.1 in
      ⊎_elim (λ (t : same x r ≡ true). rw t s.1) (λ (t : same x r ≡ false). rw t (without-above x l s.0 s.1, rest)) (decided (same x r))

  pub absent_without : (k : ClientId) (l : List Pair) → timestamp_in k l ≡ None → timestamp_in k (without r l) ≡ None
  unfolding without
  absent_without k [] n = n
  absent_without k (x ∷ l) n =
      let o = head-other k x l _ refl n in
      let rest = absent_without k l o.1 in
      ⊎_elim (λ (t : same x r ≡ true). rw t o.1) (λ (t : same x r ≡ false). rw t (absent_cons k x (without r l) o.0 rest)) (decided (same x r))

  pub without_single : (l : List Pair) → Single l → Single (without r l)
  unfolding without
  without_single [] s = tt
  without_single (x ∷ l) s =
      let rest = without_single l s.1 in
      ⊎_elim (λ (t : same x r ≡ true). rw t s.1) (λ (t : same x r ≡ false). rw t (absent_without x.client l s.0, rest)) (decided (same x r))

-- a valid state, test by test
pub record Good (q : State) : Type 0 where
  pub owner : valid_owner q.owner ≡ true
  pub all : every valid_request q.queue ≡ true
  pub behind : behind_owner q ≡ true
  pub sorted : Sorted q.queue
  pub single : Single (candidates q)

pub valid-good : (q : State) → valid_state q ≡ true → Good q
unfolding valid_state
valid-good q v =
    let (abcd, e) = both (valid_owner q.owner && every valid_request q.queue && behind_owner q && ordered q.queue) (once (candidates q)) v in
    let (abc, d) = both (valid_owner q.owner && every valid_request q.queue && behind_owner q) (ordered q.queue) abcd in
    let (ab, c) = both (valid_owner q.owner && every valid_request q.queue) (behind_owner q) abc in
    let (a, b) = both (valid_owner q.owner) (every valid_request q.queue) ab in
    record { owner = a; all = b; behind = c; sorted = ordered-sorted q.queue d; single = once_single (candidates q) e }

pub good-valid : (q : State) → Good q → valid_state q ≡ true
unfolding valid_state
good-valid q g = rw (g.owner, g.all, g.behind, sorted-ordered q.queue g.sorted) (single_once (candidates q) g.single)

-- the queue's clients are apart, whoever owns
queue_single : (o : Option Pair) (l : List Pair) → Single (candidates (record { owner = o; queue = l })) → Single l
queue_single None l s = s
queue_single (Some r) l s = s.1

-- the owner's client does not wait
pub owner-apart : (r : Pair) (o : Option Pair) (l : List Pair) → is_request r o ≡ true → Single (candidates (record { owner = o; queue = l }))
    → timestamp_in r.client l ≡ None
owner-apart r None l e s = clash false e refl
owner-apart r (Some o) l e s = rw (same_true o r e) at s.0

module _ (j : ServerId) where
  pub promote-good : (l : List Pair) → every valid_request l ≡ true → Sorted l → Single l → Good (promote j l).state
  unfolding promote valid_owner
  promote-good [] e s u = record { owner = refl; all = refl; behind = refl; sorted = tt; single = tt }
  promote-good (h ∷ l) e s u =
      let (a, b) = both (valid_request h) (every valid_request l) e in
      record { owner = a; all = b; behind = refl; sorted = s.1; single = u }

  keep_behind : (o : Option Pair) (l m : List Pair) → length m ≤ length l → behind_owner (record { owner = o; queue = l }) ≡ true
      → behind_owner (record { owner = o; queue = m }) ≡ true
  keep_behind None l m h e =
      let z : length l ≡ 0 = eqb-true _ _ e in
      let y : length m ≡ 0 = omega arith in
      eq-eqb _ _ y
  keep_behind (Some r) l m h e = refl

  keep_single : (o : Option Pair) (l : List Pair) (r : Pair) → Single (candidates (record { owner = o; queue = l }))
      → Single (candidates (record { owner = o; queue = without r l }))
  keep_single None l r s = without_single r l s
  keep_single (Some x) l r s = (absent_without r x.client l s.0, without_single r l s.1)

  pub delete-good : (r : Pair) (q : State) → Good q → Good (delete j r q).state
  unfolding delete
  delete-good r q g =
      ⊎_elim
      (λ (t : is_request r q.owner ≡ true). rw t (promote-good q.queue g.all g.sorted (queue_single q.owner q.queue g.single)))
      (λ (t : is_request r q.owner ≡ false).
      rw t record {
        owner = g.owner;
        all = every-without valid_request r q.queue g.all;
        behind = keep_behind q.owner q.queue (without r q.queue) (length_without r q.queue) g.behind;
        sorted = without-sorted r q.queue g.sorted;
        single = keep_single q.owner q.queue r g.single;
      })
      (decided (is_request r q.owner))

  inform-good : (k : ClientId) (q : State) → Good q → Good (inform j k q).state
  inform-good k q g = subst (λ (x : State). Good x) (sym (informed-state j k q)) g

  -- REQUEST: the first becomes owner, any other joins once
  empty-queue : (l : List Pair) → eqb (length l) 0 ≡ true → l ≡ []
  empty-queue [] e = refl
  empty-queue (x ∷ l) e = let z : suc (length l) ≡ 0 = eqb-true _ _ e in absurd (omega arith)

  enqueue-good : (r o : Pair) (l : List Pair) (t : Option Timestamp) → timestamp_in r.client l ≡ t → valid_request r ≡ true
      → eqb o.client.0 r.client.0 ≡ false
      → Good (record { owner = Some o; queue = l }) → Good (record { owner = Some o; queue = maybe t (insert r l) (λ u. l) })
  enqueue-good r o l None e v n g =
      record {
        owner = g.owner;
        all = every-insert valid_request r l v g.all;
        behind = refl;
        sorted = insert-sorted r l g.sorted e;
        single = (absent_insert r o.client l (flip r o.client.0 r.client.0 n) g.single.0, insert_single r l g.single.1 e);
      }
  enqueue-good r o l (Some t) e v n g = g

  pub request-good : (r : Pair) (o : Option Pair) (l : List Pair) → valid_request r ≡ true → Good (record { owner = o; queue = l })
      → Good (act j REQUEST r (record { owner = o; queue = l })).state
  unfolding act enqueue valid_owner timestamp_in
  request-good r None l v g =
      let z : l ≡ [] = empty-queue l g.behind in
      rw z record { owner = v; all = refl; behind = refl; sorted = tt; single = (refl, tt) }
  request-good r (Some o) l v g =
      ⊎_elim
      (λ (t : eqb o.client.0 r.client.0 ≡ true). rw t g)
      (λ (t : eqb o.client.0 r.client.0 ≡ false). rw t (enqueue-good r o l _ refl v t g))
      (decided (eqb o.client.0 r.client.0))

  -- YIELD: the owner joins its queue
  yield_good : (r : Pair) (o : Option Pair) (l : List Pair) → valid_request r ≡ true → Good (record { owner = o; queue = l })
      → Good (if is_request r o then promote j (insert r l) else stay (record { owner = o; queue = l })).state
  yield_good r None l v g = g
  yield_good r (Some o) l v g =
      ⊎_elim
      (λ (t : same o r ≡ true).
      let n : timestamp_in r.client l ≡ None = owner-apart r (Some o) l t g.single in
      rw t (promote-good (insert r l) (every-insert valid_request r l v g.all) (insert-sorted r l g.sorted n) (insert_single r l g.single.1 n)))
      (λ (t : same o r ≡ false). rw t g)
      (decided (same o r))

  inquiry_good : (o : Option Pair) (r : Pair) (q : State) → Good q → Good (by_owner o (stay q) (λ x. inform j r.client q)).state
  inquiry_good None r q g = g
  inquiry_good (Some o) r q g = inform-good r.client q g

  pub act-good : (tag : Tag) (r : Pair) (q : State) → valid_request r ≡ true → Good q → Good (act j tag r q).state
  unfolding act
  act-good REQUEST r q v g = request-good r q.owner q.queue v g
  act-good YIELD r q v g = inform-good r.client _ (yield_good r q.owner q.queue v g)
  act-good RELEASE r q v g = delete-good r q g
  act-good INQUIRY r q v g = inquiry_good q.owner r q g

  pub compare-good : (tag : Tag) (r : Pair) (q : State) (t : Timestamp) → valid_request r ≡ true → Good q → Good (compare j tag r q t).state
  compare-good tag r q t v g =
      ⊎_elim
      (λ (a : ltb r.timestamp.0 t.0 ≡ true). rw a g)
      (λ (a : ltb r.timestamp.0 t.0 ≡ false).
      ⊎_elim
      (λ (b : ltb t.0 r.timestamp.0 ≡ true). rw (a, b) (act-good tag r _ v (delete-good (record { client = r.client; timestamp = t }) q g)))
      (λ (b : ltb t.0 r.timestamp.0 ≡ false). rw (a, b) (act-good tag r q v g))
      (decided (ltb t.0 r.timestamp.0)))
      (decided (ltb r.timestamp.0 t.0))

  by_standing : (o : Option Timestamp) (tag : Tag) (r : Pair) (q : State) → valid_request r ≡ true → Good q
      → Good (maybe o (act j tag r q) (compare j tag r q)).state
  by_standing None tag r q v g = act-good tag r q v g
  by_standing (Some t) tag r q v g = compare-good tag r q t v g

  pub receive-good : (tag : Tag) (r : Pair) (q : State) → valid_request r ≡ true → Good q → Good (receive j tag r q).state
  unfolding receive
  receive-good tag r q v g = by_standing (timestamp_in r.client (candidates q)) tag r q v g

  by_owner_lem : (o : Option Pair) (q : State) → Good q → Good (by_owner o (stay q) (λ x. delete j x q)).state
  by_owner_lem None q g = g
  by_owner_lem (Some o) q g = delete-good o q g

  pub suspect-good : (q : State) → Good q → Good (suspect j q).state
  unfolding suspect
  suspect-good q g = by_owner_lem q.owner q g

  check-kept : (o : Option Pair) (q : State) → (by_owner o (stay q) (λ x. tell q (Check x.client j x.timestamp))).state ≡ q
  check-kept None q = refl
  check-kept (Some o) q = refl

  pub check-good : (q : State) → Good q → Good (check j q).state
  unfolding check
  check-good q g = subst (λ (x : State). Good x) (sym (check-kept q.owner q)) g

  owner_shortens : (o : Option Pair) (q : State) → length (by_owner o (stay q) (λ x. delete j x q)).state.queue ≤ length q.queue
  owner_shortens None q = omega arith
  owner_shortens (Some o) q = length-deleted j o q

  suspect_shortens : (q : State) → length (suspect j q).state.queue ≤ length q.queue
  unfolding suspect
  suspect_shortens q = owner_shortens q.owner q

-- a valid request fits its place
request-fits : (r : Pair) → valid_request r ≡ true → fits_place r ≡ true
unfolding valid_request
request-fits r v =
    let (a, b) = both (valid_client r.client) (valid_timestamp r.timestamp) v in
    (both (leb 1 r.client.0) (fits_place r) a).1

requests_fit : (l : List Pair) → every valid_request l ≡ true → every fits_place l ≡ true
requests_fit [] v = refl
requests_fit (r ∷ l) v =
    let (a, b) = both (valid_request r) (every valid_request l) v in
    rw (request-fits r a) (requests_fit l b)

-- the record of a good state is valid: head h's numbers, and the queue in as many words as the row has, which are places
pub stored-valid : (limit : ℕ) (h : Head) (row : List ℕ) (n : ℕ) (p : Step State) → valid_sizes_up_to limit h.n h.id ≡ true
    → length row ≡ 2 * n → length p.state.queue ≤ n → Good p.state
    → valid_up_to limit (record { head = head_after h (stepped p); row = row_after row (stepped p) }) ≡ true
unfolding valid_up_to
stored-valid limit h row n p z e f g =
    let q = p.state in
    let H = row_of-holds row n q.queue e f (requests_fit q.queue g.all) in
    rw (z, padded-good (row_of (length row) q.queue) (length q.queue) H.good, H.list) (good-valid q g)

-- so the record that a good state is stored as is valid
pub store-valid : (places n : ℕ) (j : ServerId) (q : State) → valid_sizes n j ≡ true → length q.queue ≤ places → Good q → valid (store_in places n j q) ≡ true
store-valid places n j q z short g =
    let row : List ℕ = replicate (2 * places) 0 in
    let long : length row ≡ 2 * places = length-replicate {A = ℕ} (2 * places) 0 in
    rw long at (stored-valid max_servers (store_in places n j q).head row places (stay q) z long short g)

-- a valid record's state is good
pub view-good : (limit : ℕ) (s : Server) → valid_up_to limit s ≡ true → (valid_sizes_up_to limit s.head.n s.head.id ≡ true) × Good (view s)
view-good limit s v = (valid-sized limit s v, valid-good (view s) (valid-state limit s v))

-- THE CALLS: an accepted step of a valid server leaves a valid server, whatever the limit of servers
not_stepped : {A : Type 0} (e : Refusal) (p : Step State) → ◌≡◌ {A = Outcome State} (refused e) (stepped p) → A
not_stepped e p h = let z : ◌≡◌ {A = ℕ} 0 1 = cc in absurd (omega arith)

module _ (limit : ℕ) (s : Server) (v : valid_up_to limit s ≡ true) where
  its-good : Good (view s)
  its-good = (view-good limit s v).1

  its-padded : Padded s.row s.head.votes.len
  its-padded = valid-padded limit s v

  pub its-room : 2 * length (view s).queue ≤ length s.row
  its-room = omega (arith, length-queue s.row s.head.votes.len its-padded, its-padded.within, its-padded.places.even)

  kept : (p : Step State) → 2 * length p.state.queue ≤ length s.row → Good p.state → valid_up_to limit (server_after s (stepped p)) ≡ true
  kept p f g =
      let e = its-padded.places.even in
      stored-valid limit s.head s.row (length (requests_in s.row)) p (view-good limit s v).0 e (omega arith) g

  held_keeps : (x p : Step State) → Good x.state → held (length s.row) x ≡ stepped p → valid_up_to limit (server_after s (stepped p)) ≡ true
  held_keeps x p g e =
      ⊎_elim
      (λ (t : ltb (length s.row) (2 * length x.state.queue) ≡ true). not_stepped QueueFull p (rw t at e))
      (λ (t : ltb (length s.row) (2 * length x.state.queue) ≡ false).
      let w : ◌≡◌ {A = Outcome State} (stepped x) (stepped p) = rw t at e in
      let h : x ≡ p = cc in
      rw (← h) (kept x (ltb-false _ _ t) g))
      (decided (ltb (length s.row) (2 * length x.state.queue)))

  pub taken_keeps_valid : (tag : Tag) (k : ClientId) (j : ServerId) (t : Timestamp) (p : Step State) → valid_stamped_up_to limit k j t ≡ true
      → taken s tag k j t ≡ stepped p → valid_up_to limit (server_after s (stepped p)) ≡ true
  taken_keeps_valid tag k j t p w e =
      let r = stamped_request limit k j t w in
      ⊎_elim
      (λ (d : eqb j.0 s.head.id.0 ≡ true). held_keeps _ p
      (receive-good s.head.id tag (record { client = k; timestamp = t }) (view s) r its-good) (rw d at e))
      (λ (d : eqb j.0 s.head.id.0 ≡ false). not_stepped NotForServer p (rw d at e))
      (decided (eqb j.0 s.head.id.0))

  received-keeps : (m : Message) (p : Step State) → format.valid_up_to limit m ≡ true → received s m ≡ stepped p
      → valid_up_to limit (server_after s (stepped p)) ≡ true
  unfolding format.valid_up_to
  received-keeps (Request k j t) p w e = taken_keeps_valid REQUEST k j t p w e
  received-keeps (Yield k j t) p w e = taken_keeps_valid YIELD k j t p w e
  received-keeps (Release k j t) p w e = taken_keeps_valid RELEASE k j t p w e
  received-keeps (Inquiry k j t) p w e = taken_keeps_valid INQUIRY k j t p w e
  received-keeps (Response k j o) p w e = not_stepped NotForServer p e
  received-keeps (Check k j t) p w e = not_stepped NotForServer p e

  pub message-keeps : (m : Message) (p : Step State) → message_outcome_up_to limit s m ≡ stepped p → valid_up_to limit (server_after s (stepped p)) ≡ true
  unfolding message_outcome_up_to
  message-keeps m p e =
      ⊎_elim
      (λ (w : format.valid_up_to limit m ≡ true). received-keeps m p w (rw (v, w) at e))
      (λ (w : format.valid_up_to limit m ≡ false). not_stepped NumberOutOfRange p (rw (v, w) at e))
      (decided (format.valid_up_to limit m))

  pub suspect-keeps : valid_up_to limit (server_after s (stepped (suspect s.head.id (view s)))) ≡ true
  suspect-keeps = kept (suspect s.head.id (view s)) (omega (arith, suspect_shortens s.head.id (view s), its-room))
      (suspect-good s.head.id (view s) its-good)

  pub check-keeps : valid_up_to limit (server_after s (stepped (check s.head.id (view s)))) ≡ true
  unfolding check
  check-keeps =
      let k : (check s.head.id (view s)).state ≡ view s = check-kept s.head.id s.head.votes.owner (view s) in
      kept (check s.head.id (view s)) (rw k its-room) (rw k its-good)

-- and so with the calls' own limit
module _ (s : Server) (v : valid s ≡ true) where
  pub message_keeps_valid : (m : Message) (p : Step State) → message_outcome s m ≡ stepped p → valid (server_after s (stepped p)) ≡ true
  message_keeps_valid m p e = message-keeps max_servers s v m p e

  suspected : (o : Option Pair) (p : Step State)
      → by_owner {B = Outcome State} o (refused NoOwner) (λ x. stepped (suspect s.head.id (view s))) ≡ stepped p
      → suspect s.head.id (view s) ≡ p
  suspected None p e = not_stepped NoOwner p e
  suspected (Some x) p e = cc

  pub suspect_keeps_valid : (p : Step State) → suspect_outcome s ≡ stepped p → valid (server_after s (stepped p)) ≡ true
  unfolding suspect_outcome
  suspect_keeps_valid p e =
      let h : suspect s.head.id (view s) ≡ p = suspected s.head.votes.owner p (rw v at e) in
      rw (← h) (suspect-keeps max_servers s v)

  pub check_keeps_valid : (p : Step State) → check_outcome s ≡ stepped p → valid (server_after s (stepped p)) ≡ true
  unfolding check_outcome
  check_keeps_valid p e =
      let w : ◌≡◌ {A = Outcome State} (stepped (check s.head.id (view s))) (stepped p) = rw v at e in
      let h : check s.head.id (view s) ≡ p = cc in
      rw (← h) (check-keeps max_servers s v)

-- a new server's record is valid
pub new_valid : (n : ℕ) (j : ServerId) → valid_sizes n j ≡ true → valid (empty_server n j) ≡ true
unfolding valid_owner row_of request_words
new_valid n j z = store-valid queue_places n j idle z zero-le (record { owner = refl; all = refl; behind = refl; sorted = tt; single = tt })
