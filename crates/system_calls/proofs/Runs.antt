-- Every run is a run of the calls: by the invariant (`Kept`) each record that a party is stored as is valid, and by what the calls do on such a record
-- (`Outcomes`) each accepted event is the accepted call.
use Rattle.std.specs.Prelude.{Some}
use Prim.Native.Nat.{ℕ, zero, suc, ◌≤◌}
use native.Mathlib.Omega.{arith}
use mathlib.Core.Path.{◌≡◌, subst}
use mathlib.Core.Bool.{true}
use mathlib.Core.List.{List, []}
use lib.Dec.{ltb, leb}
use lib.ListN.{length, replicate, get_or-replicate}
use borrow.Author.Tests.{ltb-true, leb-true, le-leb}
use Rattle.ids.specs.Limits.{within, max_client, max_servers, valid_client}
use Rattle.ids.specs.declared.ClientId.{ClientId}
use Rattle.ids.specs.declared.ServerId.{ServerId}
use Rattle.ids.specs.declared.Timestamp.{Timestamp}
use Rattle.ids.specs.declared.Request.{Request}
use Rattle.ids.proofs.Choice.{both}
use Rattle.ids.proofs.LimitsLaws.{within-range}
use Rattle.rows.proofs.RowLaws.{row_of-none}
use Rattle.wire.specs.Format.{size_of_all}
use Rattle.wire.specs.Step.{Step, Outcome, refused, stepped, with_room}
use Rattle.wire.specs.declared.Message.{Message}
use Rattle.wire.specs.declared.Message.TheVariants.{Response as RESPONSE, Check as CHECK}
use Rattle.server_votes.specs.declared.Tag.{Tag}
use Rattle.server_votes.specs.declared.Tag.TheVariants.{Request as Asks, Yield as Yields, Release as Releases, Inquiry as Inquires}
use Rattle.server_votes.specs.Figure1 as votes
use Rattle.server.specs.Record as server
use Rattle.server.specs.Calls as server_calls
use Rattle.client_responses.specs.Figure1.{State, fresh, enough, tries, exits, responds, checked}
use Rattle.client.specs.Record as client
use Rattle.client.specs.Calls as client_calls
use Rattle.client.proofs.KeepsValid.{Fits, view-store, store-valid}
use Rattle.client.proofs.ValidLaws.{sizes_range}
use Rattle.sends.specs.Room.{server_messages, server_room}
use Rattle.sends.proofs.ClientSends.{tries-few, exits-few, responds-few, checked-few}
use Rattle.sends.proofs.ServerSends.{size_few, receive_twice, suspect-once, check-once}
use Rattle.system.specs.Limits.{system_clients}
use Rattle.system.specs.declared.Event.{Event}
use Rattle.system.specs.Numbered.{at, has}
use Rattle.system.specs.Transit.{InTransit, pending, replaced, gone, keeping}
use Rattle.system.specs.Places.{System, no_client, no_server, client_at, server_at}
use Rattle.system.specs.Events.{EventOutcome, client_moves, server_moves}
use Rattle.system.specs.Runs.{start, run}
use Rattle.system.proofs.Effects.{Effect, refuses, begins, leaves, dies, sinks, rises, server_takes, client_takes, client_checked, loses, suspects, asks, effect}
use Rattle.server_votes.proofs.Tagged.{message}
use Rattle.system_calls.specs.Calls.{server_record, Stored, client_room, ClientCalled, ServerCalled, TakenByCall, ByCalls, OnRecords, StartsByNew}
use Rattle.system_calls.proofs.Kept.{Kept, has-client, has-server, new_client_lem, new_server_lem, arrived, server_sizes, kept_run}
use Rattle.system_calls.proofs.Outcomes.{with-room, client-after, begin_outcome_lem, exit_outcome_lem, response-outcome, check-outcome, stored-server, shown-server, server-after, receive-outcome, suspect-outcome, check_call}

-- a message with a tag is taken by its server's call
as_taken : (n m : ℕ) (w : System) (s : Step System) (tag : Tag) (k : ClientId) (j : ServerId) (t : Timestamp)
    → ServerCalled n w j s (server_calls.message_outcome (server_record n w j) (message tag k j t)) → TakenByCall n m w s (message tag k j t)
as_taken n m w s Asks k j t h = h
as_taken n m w s Yields k j t h = h
as_taken n m w s Releases k j t h = h
as_taken n m w s Inquires k j t h = h

in_list : {A : Type 0} (l : List A) (i : ℕ) → has l i ≡ true → (1 ≤ i) × (i ≤ length l)
in_list l i h = let (a, b) = both (ltb 0 i) (leb i (length l)) h in (ltb-true 0 i a, leb-true i (length l) b)

module _ (n m clients : ℕ) (z : client.valid_sizes n m ≡ true) (few : clients ≤ system_clients) (w : System) (K : Kept n m clients w) where
  client_fit : (k : ClientId) → has w.clients k.0 ≡ true → Fits n m k (client_at w k).state
  client_fit k h = let (a, b) = in_list w.clients k.0 h in K.client-fits k.0 a (omega (arith, K.all-clients))

  server-size : (j : ServerId) → has w.servers j.0 ≡ true → server.valid_sizes n j ≡ true
  server-size j h = let (a, b) = in_list w.servers j.0 h in server_sizes n m clients w K z j a (omega (arith, K.all-servers))

  stored : Stored n m w
  stored =
      record {
        client_valid = λ k h. store-valid client.max_places n m k (client_at w k).state (client_fit k h) (client_fit k h).ranges.few;
        client_read = λ k h. view-store client.max_places n m k (client_at w k).state (client_fit k h) (client_fit k h).ranges.few;
        server_valid = λ j h. stored-server n clients few j (server-size j h) (server_at w j).state (K.server-fits j.0);
        server_read = λ j h. shown-server n clients few j (server-size j h) (server_at w j).state (K.server-fits j.0);
      }

  -- a living client's step by its call
  module _ (k : ClientId) (lives : (client_at w k).living ≡ true) where
    abbrev its : State
    its = (client_at w k).state

    pub fits : Fits n m k (client_at w k).state
    fits = let (a, b) = has-client n m clients w K k lives in K.client-fits k.0 a b

    client-called : (l : List InTransit) (d : List ℕ) (p : Step State) (o : Outcome State) → o ≡ stepped p → size_of_all p.sent ≤ client_room n
        → ClientCalled n m w k (client_moves w k l d p) o
    client-called l d p o e h =
        let ch = new_client_lem n m clients w K k (record { living = true; state = p.state; downs = d }) lives in
        let r : (room : ℕ) → client_room n ≤ room → with_room room o ≡ stepped p = λ room g. with-room room o p e (omega (arith, h, g)) in
        record { accepted = λ room g. rw ch.here (r room g); left = λ room g. rw (ch.here, r room g) (client-after n m k its fits p) }

  -- a server's that is up
  module _ (j : ServerId) (up : (server_at w j).up ≡ true) where
    abbrev held : votes.State
    held = (server_at w j).state

    sized : server.valid_sizes n j ≡ true
    sized = let (a, b) = has-server n m clients w K j up in server_sizes n m clients w K z j a b

    server-called : (l : List InTransit) (p : Step votes.State) (o : Outcome votes.State) → o ≡ stepped p → length p.sent ≤ server_messages
        → ServerCalled n w j (server_moves w j l p) o
    server-called l p o e h =
        let ch = new_server_lem n m clients w K j (record { up = true; state = p.state }) up in
        let r : (room : ℕ) → server_room ≤ room → with_room room o ≡ stepped p = λ room g. with-room room o p e (omega (arith, h, g, size_few p.sent)) in
        record {
          accepted = λ room g. rw ch.here (r room g);
          left = λ room g. rw (ch.here, r room g) (server-after n clients few j sized held (K.server-fits j.0) p);
        }

  abbrev By : Event → EventOutcome → Type 0
  By e (refused x) = Unit {0}
  By e (stepped s) = ByCalls n m w e s

  -- what is taken is the pending message
  taken_as : (i : ℕ) (s : Step System) (x : Message) → pending i w.transit ≡ Some x → TakenByCall n m w s x
      → (y : Message) → pending i w.transit ≡ Some y → TakenByCall n m w s y
  taken_as i s x e h y f = let q : x ≡ y = cc in subst (TakenByCall n m w s) q h

  by : {e : Event} {o : EventOutcome} → Effect n (enough m) w e o → By e o
  by refuses = tt
  by (begins {k = k} lives rest may) =
      client-called k lives w.transit _ (tries n k (client_at w k).state) _ (begin_outcome_lem n m k (client_at w k).state (fits k lives) rest may)
      (tries-few n k (client_at w k).state).small
  by (leaves {k = k} lives inside) =
      client-called k lives w.transit _ (exits n k (client_at w k).state) _ (exit_outcome_lem n m k (client_at w k).state (fits k lives) inside)
      (exits-few n k (client_at w k).state).small
  by (dies lives) = tt
  by (sinks up) = tt
  by (rises here) = tt
  by (server_takes {i = i} tag k j t e up) =
      let r : Request = record { client = k; timestamp = t } in
      taken_as i.0 _ (message tag k j t) e (as_taken n m w _ tag k j t
      (server-called j up (replaced i.0 keeping w.transit) (votes.receive j tag r (server_at w j).state) _
      (receive-outcome n clients few j (sized j up) (server_at w j).state (K.server-fits j.0) tag k t (arrived n m clients w K i.0 (message tag k j t) e))
      (receive_twice j tag r (server_at w j).state (K.server-fits j.0).good)))
  by (client_takes {i = i} {k = k} {j = j} {o = o} e lives) =
      let F = fits k lives in
      taken_as i.0 _ (RESPONSE k j o) e
      (client-called k lives (replaced i.0 gone w.transit) _ (responds (enough m) n k j o (client_at w k).state) _
      (response-outcome n m k (client_at w k).state F clients j o (arrived n m clients w K i.0 (RESPONSE k j o) e))
      (omega (arith, (responds-few (enough m) n k j o (client_at w k).state).small, F.long)))
  by (client_checked {i = i} {k = k} {j = j} {t = t} e lives) =
      let F = fits k lives in
      taken_as i.0 _ (CHECK k j t) e
      (client-called k lives (replaced i.0 gone w.transit) _ (checked k j t (client_at w k).state) _
      (check-outcome n m k (client_at w k).state F clients j t (arrived n m clients w K i.0 (CHECK k j t) e))
      (omega (arith, (checked-few k j t (client_at w k).state).small, F.ranges.some)))
  by loses = tt
  by (suspects {j = j} {o = o} up e dead) =
      server-called j up w.transit (votes.suspect j (server_at w j).state) _
      (suspect-outcome n clients few j (sized j up) (server_at w j).state (K.server-fits j.0) o e)
      (omega (arith, suspect-once j (server_at w j).state))
  by (asks {j = j} up) =
      server-called j up w.transit (votes.check j (server_at w j).state) _
      (check_call n clients few j (sized j up) (server_at w j).state (K.server-fits j.0))
      (omega (arith, check-once j (server_at w j).state))

  kept_calls : OnRecords n m w
  kept_calls = record { stored = stored; called = λ e s q. subst (By e) q (by (effect n (enough m) w e)) }

at-start : {A : Type 0} (d v : A) (count i : ℕ) → within i count ≡ true → at d (replicate count v) i ≡ v
at-start d v count zero h = absurd (omega (arith, within-range 0 count h))
at-start d v count (suc i) h = get_or-replicate count i v d (omega (arith, within-range (suc i) count h))

pub starts_by_new : (n m clients : ℕ) → client.valid_sizes n m ≡ true → clients ≤ system_clients → StartsByNew n m clients
unfolding start client_calls.new_result server_calls.new_result
starts_by_new n m clients z few =
    record {
      client_new = λ k h.
          let (a, b) = within-range k.0 clients h in
          let v : valid_client k ≡ true = rw (le-leb 1 k.0 a, le-leb k.0 max_client (omega arith)) in
          rw (z, v, at-start no_client (record { living = true; state = fresh n; downs = [] }) clients k.0 h);
      server_new = λ j h.
          let (a, b, c, d) = sizes_range n m z in
          rw (le-leb 1 n a, le-leb n max_servers b, h, at-start no_server (record { up = true; state = votes.idle }) n j.0 h, row_of-none server.row_words 0 (omega arith));
    }

-- DEMAND 2 along a run: from a fresh start with n servers, a threshold m in range and at most as many clients as a simulation can have, after any
-- events the system runs on its records.
pub runs_by_calls : (n m clients : ℕ) (es : List Event) → client.valid_sizes n m ≡ true → clients ≤ system_clients
    → OnRecords n m (run n (enough m) clients es)
runs_by_calls n m clients es z few = kept_calls n m clients z few (run n (enough m) clients es) (kept_run n m clients z (omega arith) es)
