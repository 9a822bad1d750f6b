-- A server sends at most three messages in a step, and two where its record is valid: a client stands at most once in it, so that after
-- its older pair was the owner and is gone, the message is not the owner's. What they say comes from the requests that
-- the server knows or is told: a test that these pass, and that makes messages pass another, is passed by all that it sends.
use Prim.Native.Nat.{ℕ, ◌*◌, ◌≤◌}
use native.Mathlib.Omega.{arith}
use mathlib.Core.Path.{◌≡◌, refl}
use mathlib.Core.Bool.{Bool, true, false, not}
use mathlib.Core.List.{List, [], ◌∷◌, ◌++◌}
use mathlib.Core.Logic.{⊎_elim}
use lib.Dec.{eqb, ltb}
use lib.ListN.{length, length-append}
use borrow.Author.Tests.{ltb-false, not-false}
use Rattle.ids.specs.Lists.{every}
use Rattle.ids.specs.Choice.{maybe}
use Rattle.std.specs.Prelude.{if◌then◌else◌, Some, None, Option}
use Rattle.ids.specs.Limits.{max_servers, valid_server, valid_request, valid_owner, valid_parties_up_to, valid_stamped_up_to}
use Rattle.ids.specs.Requests.{same, is_request, is_client, by_owner}
use Rattle.ids.specs.declared.ClientId.{ClientId}
use Rattle.ids.specs.declared.ServerId.{ServerId}
use Rattle.ids.specs.declared.Timestamp.{Timestamp}
use Rattle.ids.specs.declared.Request.{Request as Pair}
use Rattle.ids.specs.declared.Refusal.{Refusal}
use Rattle.ids.specs.declared.Refusal.TheVariants.{NumberOutOfRange, InvalidRecord, NotForServer, QueueFull, NoOwner}
use Rattle.ids.proofs.Choice.{both, decided, passed}
use Rattle.ids.proofs.LimitsLaws.{request-range}
use Rattle.ids.proofs.ListLaws.{every_append}
use Rattle.wire.specs.Format.{length_of, size_of, fields_of, size_of_all, response_bytes}
use Rattle.wire.specs.Format as format
use Rattle.wire.specs.Step.{Step, Outcome, refused, stepped, stay, tell}
use Rattle.wire.specs.declared.Message.{Message}
use Rattle.wire.specs.declared.Message.TheVariants.{Request, Yield, Release, Inquiry, Response, Check}
use Rattle.rows.specs.Queue.{insert, without, timestamp_in}
use Rattle.sends.specs.Room.{server_messages, server_room}
use Rattle.server_votes.specs.Figure1.{State, idle, promote, delete, inform, act, compare, receive, suspect, check, admit, candidates}
use Rattle.server_votes.specs.declared.Tag.{Tag}
use Rattle.server_votes.specs.declared.Tag.TheVariants.{Request as REQUEST, Yield as YIELD, Release as RELEASE, Inquiry as INQUIRY}
use Rattle.server_votes.proofs.RoomLaws.{length-deleted}
use Rattle.server_votes.proofs.EveryLaws.{every-insert, every-without}
use Rattle.server.specs.Record as server
use Rattle.server.specs.Calls as server_calls
use Rattle.server.specs.declared.Server.{Server}
use Rattle.server.proofs.KeepsValid.{Good, head-other, owner-apart, view-good, its-room, message_keeps_valid, suspect_keeps_valid, check_keeps_valid}

-- no message is longer than a RESPONSE
length_of-few : (kind : ℕ) → length_of kind ≤ response_bytes
unfolding length_of
length_of-few kind = ⊎_elim (λ e. rw e (omega arith)) (λ e. rw e (omega arith)) (decided (eqb kind 5))

pub size_few : (ms : List Message) → size_of_all ms ≤ response_bytes * length ms
unfolding size_of_all size_of
size_few [] = omega arith
size_few (m ∷ ms) = omega (arith, size_few ms, length_of-few (fields_of m).kind)

module _ (j : ServerId) where
  promote-few : (l : List Pair) → length (promote j l).sent ≤ 1
  unfolding promote
  promote-few [] = omega arith
  promote-few (h ∷ l) = omega arith

  delete-few : (r : Pair) (q : State) → length (delete j r q).sent ≤ 1
  unfolding delete
  delete-few r q =
      ⊎_elim (λ (t : is_request r q.owner ≡ true). rw t (promote-few q.queue))
      (λ (t : is_request r q.owner ≡ false). rw t (omega arith)) (decided (is_request r q.owner))

  inform-few : (k : ClientId) (q : State) → length (inform j k q).sent ≤ 1
  unfolding inform
  inform-few k q =
      ⊎_elim (λ (t : is_client k q.owner ≡ true). rw t (omega arith)) (λ (t : is_client k q.owner ≡ false). rw t (omega arith))
      (decided (is_client k q.owner))

  yielded-few : (b : Bool) (l : List Pair) (q : State) → length (if b then promote j l else stay q).sent ≤ 1
  yielded-few true l q = promote-few l
  yielded-few false l q = omega arith

  inquired_few : (o : Option Pair) (k : ClientId) (q : State) → length (by_owner o (stay q) (λ x. inform j k q)).sent ≤ 1
  inquired_few None k q = omega arith
  inquired_few (Some x) k q = inform-few k q

  act-few : (tag : Tag) (r : Pair) (q : State) → length (act j tag r q).sent ≤ 2
  unfolding act
  act-few REQUEST r q =
      ⊎_elim (λ (t : is_client r.client q.owner ≡ true). rw t (omega arith))
      (λ (t : is_client r.client q.owner ≡ false). rw t (omega arith)) (decided (is_client r.client q.owner))
  act-few YIELD r q =
      let a : Step State = if is_request r q.owner then promote j (insert r q.queue) else stay q in
      rw length-append (omega (arith, yielded-few (is_request r q.owner) (insert r q.queue) q, inform-few r.client a.state))
  act-few RELEASE r q = omega (arith, delete-few r q)
  act-few INQUIRY r q = omega (arith, inquired_few q.owner r.client q)

  -- a message that is not the owner's
  act-once : (tag : Tag) (r : Pair) (q : State) → is_request r q.owner ≡ false → length (act j tag r q).sent ≤ 1
  unfolding act
  act-once REQUEST r q e =
      ⊎_elim (λ (t : is_client r.client q.owner ≡ true). rw t (omega arith))
      (λ (t : is_client r.client q.owner ≡ false). rw t (omega arith)) (decided (is_client r.client q.owner))
  act-once YIELD r q e = rw e (inform-few r.client q)
  act-once RELEASE r q e = delete-few r q
  act-once INQUIRY r q e = inquired_few q.owner r.client q

  compared_few : (older newer : Bool) (tag : Tag) (r p : Pair) (q : State)
      → length (if older then stay q else if newer then record
      { state = (act j tag r (delete j p q).state).state; sent = (delete j p q).sent ++ (act j tag r (delete j p q).state).sent } else
      act j tag r q).sent ≤ 3
  compared_few true newer tag r p q = omega arith
  compared_few false true tag r p q = rw length-append (omega (arith, delete-few p q, act-few tag r (delete j p q).state))
  compared_few false false tag r p q = omega (arith, act-few tag r q)

  received-few : (o : Option Timestamp) (tag : Tag) (r : Pair) (q : State) → length (maybe o (act j tag r q) (compare j tag r q)).sent ≤ 3
  received-few None tag r q = omega (arith, act-few tag r q)
  received-few (Some t) tag r q = compared_few (ltb r.timestamp.0 t.0) (ltb t.0 r.timestamp.0) tag r
      (record { client = r.client; timestamp = t }) q

  pub receive-few : (tag : Tag) (r : Pair) (q : State) → length (receive j tag r q).sent ≤ 3
  unfolding receive
  receive-few tag r q = received-few (timestamp_in r.client (candidates q)) tag r q

  -- of a good state: the client of the pair that made way does not stand in the queue
  promoted_twice : (tag : Tag) (r : Pair) (l : List Pair) → timestamp_in r.client l ≡ None
      → length ((promote j l).sent ++ (act j tag r (promote j l).state).sent) ≤ 2
  unfolding promote same
  promoted_twice tag r [] n = act-few tag r idle
  promoted_twice tag r (h ∷ l) n =
      omega (arith, act-once tag r (record { owner = Some h; queue = l }) (rw (head-other r.client h l _ refl n).0))

  deleted_twice : (tag : Tag) (r : Pair) (t : Timestamp) (q : State) → Good q →
      let old : Pair = record { client = r.client; timestamp = t } in length ((delete j old q).sent ++ (act j tag r (delete j old q).state).sent) ≤ 2
  unfolding delete
  deleted_twice tag r t q G =
      let old : Pair = record { client = r.client; timestamp = t } in
      ⊎_elim
      (λ (e : is_request old q.owner ≡ true). rw e (promoted_twice tag r q.queue (owner-apart old q.owner q.queue e G.single)))
      (λ (e : is_request old q.owner ≡ false). rw e (act-few tag r (record { owner = q.owner; queue = without old q.queue })))
      (decided (is_request old q.owner))

  compared_twice : (tag : Tag) (r : Pair) (q : State) (t : Timestamp) → Good q → length (compare j tag r q t).sent ≤ 2
  compared_twice tag r q t G =
      ⊎_elim
      (λ (a : ltb r.timestamp.0 t.0 ≡ true). rw a (omega arith))
      (λ (a : ltb r.timestamp.0 t.0 ≡ false).
      ⊎_elim (λ (b : ltb t.0 r.timestamp.0 ≡ true). rw (a, b) (deleted_twice tag r t q G))
      (λ (b : ltb t.0 r.timestamp.0 ≡ false). rw (a, b) (act-few tag r q))
      (decided (ltb t.0 r.timestamp.0)))
      (decided (ltb r.timestamp.0 t.0))

  received_twice : (o : Option Timestamp) (tag : Tag) (r : Pair) (q : State) → Good q → length (maybe o (act j tag r q) (compare j tag r q)).sent ≤ 2
  received_twice None tag r q G = act-few tag r q
  received_twice (Some t) tag r q G = compared_twice tag r q t G

  pub receive_twice : (tag : Tag) (r : Pair) (q : State) → Good q → length (receive j tag r q).sent ≤ server_messages
  unfolding receive
  receive_twice tag r q G = received_twice (timestamp_in r.client (candidates q)) tag r q G

  suspected_by : (o : Option Pair) (q : State) → length (by_owner o (stay q) (λ x. delete j x q)).sent ≤ 1
  suspected_by None q = omega arith
  suspected_by (Some x) q = delete-few x q

  pub suspect-once : (q : State) → length (suspect j q).sent ≤ 1
  unfolding suspect
  suspect-once q = suspected_by q.owner q

  pub suspect-few : (q : State) → length (suspect j q).sent ≤ 3
  suspect-few q = omega (arith, suspect-once q)

  checked_by : (o : Option Pair) (q : State) → length (by_owner o (stay q) (λ x. tell q (Check x.client j x.timestamp))).sent ≤ 1
  checked_by None q = omega arith
  checked_by (Some x) q = omega arith

  pub check-once : (q : State) → length (check j q).sent ≤ 1
  unfolding check
  check-once q = checked_by q.owner q

  pub check-few : (q : State) → length (check j q).sent ≤ 3
  check-few q = omega (arith, check-once q)

pub never : {A : Type 0} (e : Refusal) (p : Step A) → ◌≡◌ {A = Outcome A} (refused e) (stepped p) → ⊥
never e p h = let z : ◌≡◌ {A = ℕ} 0 1 = cc in omega arith

pub entered : {A : Type 0} {x y z : A} (b : Bool) → (y ≡ z → ⊥) → (if b then x else y) ≡ z → x ≡ z
entered true n h = h
entered false n h = absurd (n h)

-- a suspicion and a check make no queue longer
module _ (j : ServerId) where
  suspected_shorter : (o : Option Pair) (q : State) → length (by_owner o (stay q) (λ x. delete j x q)).state.queue ≤ length q.queue
  suspected_shorter None q = omega arith
  suspected_shorter (Some x) q = length-deleted j x q

  suspect_shorter : (q : State) → length (suspect j q).state.queue ≤ length q.queue
  unfolding suspect
  suspect_shorter q = suspected_shorter q.owner q

  checked-same : (o : Option Pair) (q : State) → (by_owner o (stay q) (λ x. tell q (Check x.client j x.timestamp))).state ≡ q
  checked-same None q = refl
  checked-same (Some x) q = refl

  check-same : (q : State) → (check j q).state ≡ q
  unfolding check
  check-same q = checked-same q.owner q

-- an accepted step of a server
module _ (s : Server) (p : Step State) where
  -- few messages, and a queue for which the row has places
  record Short (x : Step State) : Type 0 where
    few : length x.sent ≤ server_messages
    room : 2 * length x.state.queue ≤ length s.row

  module _ (v : server.valid s ≡ true) where
    taken-short : (tag : Tag) (k : ClientId) (j : ServerId) (t : Timestamp) → server_calls.taken s tag k j t ≡ stepped p → Short p
    taken-short tag k j t e =
        let x : Step State = receive s.head.id tag (record { client = k; timestamp = t }) (server.view s) in
        let (b, f) = passed (ltb (length s.row) (2 * length x.state.queue)) (never QueueFull p)
        (entered (eqb j.0 s.head.id.0) (never NotForServer p) e) in
        let g : x ≡ p = cc in
        rw (← g) (record {
          few = receive_twice s.head.id tag (record { client = k; timestamp = t }) (server.view s) (view-good max_servers s v).1;
          room = ltb-false _ _ b;
        })

    received-short : (m : Message) → server_calls.received s m ≡ stepped p → Short p
    received-short (Request k j t) e = taken-short REQUEST k j t e
    received-short (Yield k j t) e = taken-short YIELD k j t e
    received-short (Release k j t) e = taken-short RELEASE k j t e
    received-short (Inquiry k j t) e = taken-short INQUIRY k j t e
    received-short (Response k j o) e = absurd (never NotForServer p e)
    received-short (Check k j t) e = absurd (never NotForServer p e)

    suspected-short : (o : Option Pair) → by_owner {B = Outcome State} o (refused NoOwner) (λ x. stepped (suspect s.head.id (server.view s))) ≡ stepped p → Short p
    suspected-short None e = absurd (never NoOwner p e)
    suspected-short (Some x) e =
        let g : suspect s.head.id (server.view s) ≡ p = cc in
        rw (← g) (record {
          few = omega (arith, suspect-once s.head.id (server.view s));
          room = omega (arith, its-room max_servers s v, suspect_shorter s.head.id (server.view s));
        })

  -- what is known of the step: the record was valid and is again, few messages were sent, and the queue has its places
  pub record Accepted : Type 0 where
    pub before : server.valid s ≡ true
    pub after : server.valid (server_calls.server_after s (stepped p)) ≡ true
    pub few : length p.sent ≤ server_messages
    pub small : size_of_all p.sent ≤ server_room
    pub room : 2 * length p.state.queue ≤ length s.row

  accepted : server.valid s ≡ true → server.valid (server_calls.server_after s (stepped p)) ≡ true → Short p → Accepted
  accepted v w h =
      record { before = v; after = w; few = h.few; small = omega (arith, size_few p.sent, h.few); room = h.room }

  pub message-accepted : (m : Message) → server_calls.message_outcome s m ≡ stepped p → Accepted
  unfolding server_calls.message_outcome_up_to
  message-accepted m e =
      let (a, h₁) = passed (not (server.valid s)) (never InvalidRecord p) e in
      let (b, h₂) = passed (not (format.valid m)) (never NumberOutOfRange p) h₁ in
      let v : server.valid s ≡ true = not-false (server.valid s) a in
      accepted v (message_keeps_valid s v m p e) (received-short v m h₂)

  pub suspect-accepted : server_calls.suspect_outcome s ≡ stepped p → Accepted
  unfolding server_calls.suspect_outcome
  suspect-accepted e =
      let (a, h) = passed (not (server.valid s)) (never InvalidRecord p) e in
      let v : server.valid s ≡ true = not-false (server.valid s) a in
      accepted v (suspect_keeps_valid s v p e) (suspected-short v s.head.votes.owner h)

  pub check-accepted : server_calls.check_outcome s ≡ stepped p → Accepted
  unfolding server_calls.check_outcome
  check-accepted e =
      let (a, h) = passed (not (server.valid s)) (never InvalidRecord p) e in
      let v : server.valid s ≡ true = not-false (server.valid s) a in
      let g : check s.head.id (server.view s) ≡ p = cc in
      accepted v (check_keeps_valid s v p e)
      (rw (← g) (record {
        few = omega (arith, check-once s.head.id (server.view s));
        room = rw (check-same s.head.id (server.view s)) (its-room max_servers s v);
      }))

-- the owner and the queue pass g
pub record Knows (g : Pair → Bool) (q : State) : Type 0 where
  pub owner : by_owner q.owner true g ≡ true
  pub queue : every g q.queue ≡ true

-- what a step sends passes f, and what it leaves passes g
record Passes (g : Pair → Bool) (f : Message → Bool) (s : Step State) : Type 0 where
  sent : every f s.sent ≡ true
  left : Knows g s.state

module _ (g : Pair → Bool) (f : Message → Bool) (j : ServerId)
    (tells : (r : Pair) (o : Option Pair) → g r ≡ true → by_owner o true g ≡ true → f (Response r.client j o) ≡ true)
    (asks : (r : Pair) → g r ≡ true → f (Check r.client j r.timestamp) ≡ true) where
  promote_passes : (l : List Pair) → every g l ≡ true → Passes g f (promote j l)
  unfolding promote
  promote_passes [] h = record { sent = refl; left = record { owner = refl; queue = refl } }
  promote_passes (x ∷ l) h =
      let (a, t) = both (g x) (every g l) h in
      record { sent = rw (tells x (Some x) a a); left = record { owner = a; queue = t } }

  delete_passes : (r : Pair) (q : State) → Knows g q → Passes g f (delete j r q)
  unfolding delete
  delete_passes r q k =
      ⊎_elim
      (λ (t : is_request r q.owner ≡ true). rw t (promote_passes q.queue k.queue))
      (λ (t : is_request r q.owner ≡ false). rw t
      (record { sent = refl; left = record { owner = k.owner; queue = every-without g r q.queue k.queue } }))
      (decided (is_request r q.owner))

  inform_passes : (r : Pair) (q : State) → g r ≡ true → Knows g q → every f (inform j r.client q).sent ≡ true
  unfolding inform
  inform_passes r q a k =
      ⊎_elim
      (λ (t : is_client r.client q.owner ≡ true). rw t refl)
      (λ (t : is_client r.client q.owner ≡ false). rw (t, tells r q.owner a k.owner))
      (decided (is_client r.client q.owner))

  admit_passes : (r : Pair) (o : Option Pair) (l : List Pair) → g r ≡ true → by_owner o true g ≡ true
      → f (Response r.client j (admit r (record { owner = o; queue = l })).owner) ≡ true
  admit_passes r None l a h = tells r (Some r) a a
  admit_passes r (Some o) l a h = tells r (Some o) a h

  yield_passes : (b : Bool) (r : Pair) (q : State) → g r ≡ true → Knows g q → Passes g f (if b then promote j (insert r q.queue) else stay q)
  yield_passes true r q a k = promote_passes (insert r q.queue) (every-insert g r q.queue a k.queue)
  yield_passes false r q a k = record { sent = refl; left = k }

  inquiry_passes : (o : Option Pair) (r : Pair) (q : State) → g r ≡ true → Knows g q → every f (by_owner o (stay q) (λ x. inform j r.client q)).sent ≡ true
  inquiry_passes None r q a k = refl
  inquiry_passes (Some o) r q a k = inform_passes r q a k

  act_passes : (tag : Tag) (r : Pair) (q : State) → g r ≡ true → Knows g q → every f (act j tag r q).sent ≡ true
  unfolding act
  act_passes REQUEST r q a k =
      ⊎_elim
      (λ (t : is_client r.client q.owner ≡ true). rw t refl)
      (λ (t : is_client r.client q.owner ≡ false). rw (t, admit_passes r q.owner q.queue a k.owner))
      (decided (is_client r.client q.owner))
  act_passes YIELD r q a k =
      let s : Step State = if is_request r q.owner then promote j (insert r q.queue) else stay q in
      let p : Passes g f s = yield_passes (is_request r q.owner) r q a k in
      every_append f s.sent (inform j r.client s.state).sent p.sent (inform_passes r s.state a p.left)
  act_passes RELEASE r q a k = (delete_passes r q k).sent
  act_passes INQUIRY r q a k = inquiry_passes q.owner r q a k

  compared_passes : (older newer : Bool) (tag : Tag) (r p : Pair) (q : State) → g r ≡ true → Knows g q
      → every f (if older then stay q else if newer then record
      { state = (act j tag r (delete j p q).state).state; sent = (delete j p q).sent ++ (act j tag r (delete j p q).state).sent } else
      act j tag r q).sent ≡ true
  compared_passes true newer tag r p q a k = refl
  compared_passes false true tag r p q a k =
      let d : Passes g f (delete j p q) = delete_passes p q k in
      every_append f (delete j p q).sent (act j tag r (delete j p q).state).sent d.sent (act_passes tag r (delete j p q).state a d.left)
  compared_passes false false tag r p q a k = act_passes tag r q a k

  received_passes : (o : Option Timestamp) (tag : Tag) (r : Pair) (q : State) → g r ≡ true → Knows g q
      → every f (maybe o (act j tag r q) (compare j tag r q)).sent ≡ true
  received_passes None tag r q a k = act_passes tag r q a k
  received_passes (Some t) tag r q a k = compared_passes (ltb r.timestamp.0 t.0) (ltb t.0 r.timestamp.0) tag r
      (record { client = r.client; timestamp = t }) q a k

  pub receive_passes : (tag : Tag) (r : Pair) (q : State) → g r ≡ true → Knows g q → every f (receive j tag r q).sent ≡ true
  unfolding receive
  receive_passes tag r q a k = received_passes (timestamp_in r.client (candidates q)) tag r q a k

  suspected_passes : (o : Option Pair) (q : State) → Knows g q → every f (by_owner o (stay q) (λ x. delete j x q)).sent ≡ true
  suspected_passes None q k = refl
  suspected_passes (Some x) q k = (delete_passes x q k).sent

  pub suspect_passes : (q : State) → Knows g q → every f (suspect j q).sent ≡ true
  unfolding suspect
  suspect_passes q k = suspected_passes q.owner q k

  checked_passes : (o : Option Pair) (q : State) → by_owner o true g ≡ true
      → every f (by_owner o (stay q) (λ x. tell q (Check x.client j x.timestamp))).sent ≡ true
  checked_passes None q h = refl
  checked_passes (Some x) q h = rw (asks x h)

  pub check_passes : (q : State) → Knows g q → every f (check j q).sent ≡ true
  unfolding check
  check_passes q k = checked_passes q.owner q k.owner

-- every number that a good server sends is in its range
owner-known : (o : Option Pair) → valid_owner o ≡ true → by_owner o true valid_request ≡ true
unfolding valid_owner
owner-known None h = refl
owner-known (Some r) h = h

known-owner : (o : Option Pair) → by_owner o true valid_request ≡ true → valid_owner o ≡ true
unfolding valid_owner
known-owner None h = refl
known-owner (Some r) h = h

pub good_knows : (q : State) → Good q → Knows valid_request q
good_knows q G = record { owner = owner-known q.owner G.owner; queue = G.all }

module _ (j : ServerId) (v : valid_server j ≡ true) where
  tells-valid : (r : Pair) (o : Option Pair) → valid_request r ≡ true → by_owner o true valid_request ≡ true → format.valid (Response r.client j o) ≡ true
  unfolding format.valid_up_to format.valid_response_up_to valid_parties_up_to
  tells-valid r o a h = rw ((request-range r a).0, v, known-owner o h)

  asks-valid : (r : Pair) → valid_request r ≡ true → format.valid (Check r.client j r.timestamp) ≡ true
  unfolding format.valid_up_to valid_stamped_up_to valid_parties_up_to
  asks-valid r a = let (k, t) = request-range r a in rw (k, v, t)

  pub receive-valid : (tag : Tag) (r : Pair) (q : State) → valid_request r ≡ true → Good q → every format.valid (receive j tag r q).sent ≡ true
  receive-valid tag r q a G = receive_passes valid_request format.valid j tells-valid asks-valid tag r q a (good_knows q G)

  pub suspect-valid : (q : State) → Good q → every format.valid (suspect j q).sent ≡ true
  suspect-valid q G = suspect_passes valid_request format.valid j tells-valid asks-valid q (good_knows q G)

  pub check-valid : (q : State) → Good q → every format.valid (check j q).sent ≡ true
  check-valid q G = check_passes valid_request format.valid j tells-valid asks-valid q (good_knows q G)
