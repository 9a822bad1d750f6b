-- What each call does on the record that a fitting state is stored as: it is accepted, and leaves the record that the step's state is stored as.
use Rattle.std.specs.Prelude.{Some, Option}
use Prim.Native.Nat.{ℕ, ◌*◌, ◌≤◌}
use native.Mathlib.Omega.{arith}
use mathlib.Core.Path.{◌≡◌, refl}
use mathlib.Core.Bool.{true, false}
use mathlib.Core.List.{List, [], ◌∷◌, map}
use lib.Dec.{leb, ltb}
use lib.ListN.{length, length-map}
use borrow.Author.Tests.{le-ltb, eq-eqb}
use Rattle.ids.specs.Limits.{valid_request}
use Rattle.ids.specs.Lists.{every}
use Rattle.ids.specs.declared.ClientId.{ClientId}
use Rattle.ids.specs.declared.ServerId.{ServerId}
use Rattle.ids.specs.declared.Timestamp.{Timestamp}
use Rattle.ids.specs.declared.Request.{Request}
use Rattle.ids.proofs.Choice.{both}
use Rattle.rows.proofs.RowLaws.{length_row_of}
use Rattle.wire.specs.Format as format
use Rattle.wire.specs.Format.{size_of_all, fields_of}
use Rattle.wire.specs.Step.{Step, Outcome, stepped, with_room}
use Rattle.wire.specs.declared.Message.TheVariants.{Response, Check}
use Rattle.server_votes.specs.declared.Tag.{Tag}
use Rattle.server_votes.specs.Figure1 as votes
use Rattle.server_votes.specs.Figure1.{receive, suspect, check}
use Rattle.server.specs.Record as server
use Rattle.server.specs.Calls as server_calls
use Rattle.server.proofs.CallLaws.{received_as}
use Rattle.server.proofs.KeepsValid as server_laws
use Rattle.server.proofs.Pigeonhole.{up_to, queue-fits}
use Rattle.server.proofs.RecordLaws as server_records
use Rattle.client_responses.specs.Figure1.{State, enough, may_try, is_remainder, is_critical, tries, exits, responds, checked}
use Rattle.client_responses.specs.Row.{place}
use Rattle.client.specs.Record as client
use Rattle.client.specs.Calls as client_calls
use Rattle.client.specs.Calls.{for_client}
use Rattle.client.proofs.KeepsValid.{Fits, view-store, store-valid, after-stored}
use Rattle.system.specs.Limits.{system_clients}
use Rattle.system.proofs.ServerSteps.{holds-every}
use Rattle.server_votes.proofs.Tagged.{message}
use Rattle.system_calls.proofs.Kept.{known, There, there-parts, tagged-parts, message-known, ServerFits, receive-fits}

-- with room for what is sent, a call's outcome stands
pub with-room : {A : Type 0} (room : ℕ) (o : Outcome A) (s : Step A) → o ≡ stepped s → size_of_all s.sent ≤ room → with_room room o ≡ stepped s
unfolding with_room
with-room room o s e h = rw (e, le-ltb room (size_of_all s.sent) h)

-- client k's calls
module _ (n m : ℕ) (k : ClientId) (s : State) (F : Fits n m k s) where
  its-head : (client.store n m k s).head ≡ client.head_in n m k s
  unfolding client.store_in
  its-head = refl

  row-long : length (client.store n m k s).row ≡ client.row_words
  unfolding client.store_in
  row-long = length_row_of client.row_words (map place s.responses) (simp length-map (omega (arith, F.long, F.ranges.few)))

  pub client-after : (p : Step State) → client_calls.client_after (client.store n m k s) (stepped p) ≡ client.store n m k p.state
  unfolding client.store_in
  client-after p = after-stored client.max_places (client.store n m k s) p row-long

  pub begin_outcome_lem : is_remainder s.section ≡ true → may_try s ≡ true → client_calls.begin_outcome (client.store n m k s) ≡ stepped (tries n k s)
  unfolding client_calls.begin_outcome
  begin_outcome_lem h g = rw (store-valid client.max_places n m k s F F.ranges.few, view-store client.max_places n m k s F F.ranges.few, its-head, h, g)

  pub exit_outcome_lem : is_critical s.section ≡ true → client_calls.exit_outcome (client.store n m k s) ≡ stepped (exits n k s)
  unfolding client_calls.exit_outcome
  exit_outcome_lem h = rw (store-valid client.max_places n m k s F F.ranges.few, view-store client.max_places n m k s F F.ranges.few, its-head, h)

  for_me : (j : ServerId) → leb j.0 n ≡ true → for_client (client.head_in n m k s) k j ≡ true
  for_me j h = rw (eq-eqb k.0 k.0 refl, h)

  pub response-outcome : (clients : ℕ) (j : ServerId) (o : Option Request) → There n clients (Response k j o)
      → client_calls.message_outcome (client.store n m k s) (Response k j o) ≡ stepped (responds (enough m) n k j o s)
  unfolding client_calls.message_outcome_up_to fields_of
  response-outcome clients j o a =
      let (v, c, h) = there-parts n clients (Response k j o) a in
      rw (store-valid client.max_places n m k s F F.ranges.few, v, view-store client.max_places n m k s F F.ranges.few, its-head, for_me j h)

  pub check-outcome : (clients : ℕ) (j : ServerId) (t : Timestamp) → There n clients (Check k j t)
      → client_calls.message_outcome (client.store n m k s) (Check k j t) ≡ stepped (checked k j t s)
  unfolding client_calls.message_outcome_up_to fields_of
  check-outcome clients j t a =
      let (v, c, h) = there-parts n clients (Check k j t) a in
      rw (store-valid client.max_places n m k s F F.ranges.few, v, view-store client.max_places n m k s F F.ranges.few, its-head, for_me j h)

-- so many clients, each once, fit a queue
module _ (clients : ℕ) where
  up_to_lem : (l : List Request) → every (known clients) l ≡ true → every (up_to clients) l ≡ true
  up_to_lem [] h = refl
  up_to_lem (r ∷ l) h =
      let (a, g) = both (known clients r) (every (known clients) l) h in
      rw (both (valid_request r) (up_to clients r) a).1 (up_to_lem l g)

  pub short-queue : clients ≤ system_clients → (q : votes.State) → ServerFits clients q → length q.queue ≤ server.queue_places
  short-queue few q S = omega (arith, queue-fits clients q S.good (up_to_lem (votes.candidates q) (holds-every (known clients) q S.holds)))

-- server j's calls
module _ (n clients : ℕ) (few : clients ≤ system_clients) (j : ServerId) (sizes : server.valid_sizes n j ≡ true) (q : votes.State) (S : ServerFits clients q) where
  short : length q.queue ≤ server.queue_places
  short = short-queue clients few q S

  pub stored-server : server.valid (server.store n j q) ≡ true
  stored-server = server_laws.store-valid server.queue_places n j q sizes short S.good

  pub shown-server : server.view (server.store n j q) ≡ q
  shown-server = server_records.view-store server.queue_places n j q short

  words_long : length (server.store n j q).row ≡ server.row_words
  words_long = length_row_of server.row_words q.queue (omega (arith, short))

  pub server-after : (p : Step votes.State) → server_calls.server_after (server.store n j q) (stepped p) ≡ server.store n j p.state
  server-after p = rw words_long

  pub receive-outcome : (tag : Tag) (k : ClientId) (t : Timestamp) → There n clients (message tag k j t)
      → server_calls.message_outcome (server.store n j q) (message tag k j t) ≡ stepped (receive j tag (record { client = k; timestamp = t }) q)
  unfolding server_calls.message_outcome_up_to
  receive-outcome tag k t h =
      let r : Request = record { client = k; timestamp = t } in
      let a = message-known n clients tag k j t h in
      let v = (tagged-parts n clients tag k j t h).0 in
      let s = short-queue clients few (receive j tag r q).state (receive-fits clients j q S tag r a) in
      let f : ltb (length (server.store n j q).row) (2 * length (receive j tag r q).state.queue) ≡ false = le-ltb (length (server.store n j q).row)
      (2 * length (receive j tag r q).state.queue) (omega (arith, words_long)) in
      rw (stored-server, v, received_as (server.store n j q) tag k j t, shown-server, eq-eqb j.0 j.0 refl, f)

  pub suspect-outcome : (o : Request) → q.owner ≡ Some o → server_calls.suspect_outcome (server.store n j q) ≡ stepped (suspect j q)
  unfolding server_calls.suspect_outcome
  suspect-outcome o e = rw (stored-server, shown-server, e)

  pub check_call : server_calls.check_outcome (server.store n j q) ≡ stepped (check j q)
  unfolding server_calls.check_outcome
  check_call = rw (stored-server, shown-server)
