-- A record that was taken over goes on as it would have: a step that the saved record accepts, or an old player on it, gives the same state and messages, since
-- Figure 1 sees the state alone, and leaves the record of today with that state. Only where a server's queue was full has it more places now, and a client
-- from before L4 begins to keep what it sees.
use Prim.Native.Nat.{ℕ, ◌*◌, ◌≤◌}
use native.Mathlib.Omega.{arith}
use mathlib.Core.Path.{◌≡◌, refl, sym, ap, ◌∙◌}
use mathlib.Core.Bool.{true, false, not}
use mathlib.Core.List.{List}
use mathlib.Core.Logic.{⊎_elim}
use lib.Dec.{eqb, ltb}
use lib.ListN.{length}
use borrow.Author.Tests.{ltb-false, le-ltb}
use Rattle.ids.specs.declared.ClientId.{ClientId}
use Rattle.ids.specs.declared.ServerId.{ServerId}
use Rattle.ids.specs.declared.Timestamp.{Timestamp}
use Rattle.ids.specs.declared.Refusal.{Refusal}
use Rattle.ids.specs.declared.Refusal.TheVariants.{NumberOutOfRange, NotForServer, QueueFull}
use Rattle.ids.proofs.Choice.{both, decided, passed}
use Rattle.wire.specs.Format as format
use Rattle.wire.specs.Step.{Step, Outcome, refused, stepped}
use Rattle.wire.specs.declared.Message.{Message}
use Rattle.wire.specs.declared.Message.TheVariants.{Request, Yield, Release, Inquiry, Response, Check}
use Rattle.server_votes.specs.declared.Tag.{Tag}
use Rattle.server_votes.specs.declared.Tag.TheVariants.{Request as REQUEST, Yield as YIELD, Release as RELEASE, Inquiry as INQUIRY}
use Rattle.server_votes.specs.Figure1 as votes
use Rattle.server.specs.Record as server
use Rattle.server.specs.Calls as server_calls
use Rattle.server.specs.declared.Server.{Server}
use Rattle.client.specs.Record as client
use Rattle.client.specs.Calls as client_calls
use Rattle.client.specs.declared.Client.{Client}
use Rattle.client_responses.specs.Figure1 as responses
use Rattle.client.proofs.KeepsValid.{after-stored}
use Rattle.ids.specs.Limits.{max_servers, earlier_servers}
use Rattle.words.specs.Records.{holds_server_of, server_from, holds_client_of, client_size}
use Rattle.saved.specs.Forms.{earlier_queue, earlier_responses, earlier_size_of, sound_server, sound_client, saved_server, ordered, saved_client}
use Rattle.saved.specs.Players.{earlier_server_takes, leaving_blind, clockless_takes, earlier_client_takes, earlier_knows, take_known}
use Rattle.saved.proofs.Players.{server-known, client-known, clockless_known}
use Rattle.saved.specs.Taken.{server_today, client_today, saved_as, ServerTaken, ClientTaken}
use Rattle.saved.proofs.Ordered.{ordered_earlier, earlier_head_lem, seen_nothing}
use Rattle.saved.proofs.Rules.{client_form_1}
use Rattle.saved.proofs.Taken.{Fitting, server_fitting, server_taken_over, client_was_valid, client_today-long, client_taken_over}

-- a refusal is no step
never : {B : Type 0} (e : Refusal) (p : Step votes.State) → ◌≡◌ {A = Outcome votes.State} (refused e) (stepped p) → B
never e p h = let z : ◌≡◌ {A = ℕ} 0 1 = cc in absurd (omega arith)

-- a queue that fits a row fits a longer one
held-longer : (small large : ℕ) (x p : Step votes.State) → small ≤ large → server_calls.held small x ≡ stepped p → server_calls.held large x ≡ stepped p
held-longer small large x p h e =
    let (a, b) = passed (ltb small (2 * length x.state.queue)) (never QueueFull p) e in
    rw (le-ltb large (2 * length x.state.queue) (omega (arith, h, ltb-false small (2 * length x.state.queue) a))) b

-- a server's record
module _ (ws : List ℕ) (v : saved_server ws ≡ true) where
  abbrev s : Server
  s = server_from ws

  abbrev T : ServerTaken ws
  T = server_taken_over ws v

  abbrev F : Fitting ws
  F = server_fitting ws v

  taken_goes_on : (tag : Tag) (k : ClientId) (j : ServerId) (t : Timestamp) (p : Step votes.State)
      → server_calls.taken s tag k j t ≡ stepped p → server_calls.taken (server_today s) tag k j t ≡ stepped p
  taken_goes_on tag k j t p e =
      ⊎_elim
      (λ (q : eqb j.0 s.head.id.0 ≡ true).
      let x = votes.receive s.head.id tag (record { client = k; timestamp = t }) (server.view s) in
      let h : server_calls.held (length s.row) x ≡ stepped p = rw q at e in
      rw (q, T.shows, F.today) (held-longer (length s.row) server.row_words x p F.fewer h))
      (λ (q : eqb j.0 s.head.id.0 ≡ false). never NotForServer p (rw q at e))
      (decided (eqb j.0 s.head.id.0))

  received_goes_on : (m : Message) (p : Step votes.State) → server_calls.received s m ≡ stepped p → server_calls.received (server_today s) m ≡ stepped p
  received_goes_on (Request k j t) p e = taken_goes_on REQUEST k j t p e
  received_goes_on (Yield k j t) p e = taken_goes_on YIELD k j t p e
  received_goes_on (Release k j t) p e = taken_goes_on RELEASE k j t p e
  received_goes_on (Inquiry k j t) p e = taken_goes_on INQUIRY k j t p e
  received_goes_on (Response k j o) p e = never NotForServer p e
  received_goes_on (Check k j t) p e = never NotForServer p e

  pub server_message_goes_on : (m : Message) (p : Step votes.State) → server_calls.message_outcome s m ≡ stepped p
      → server_calls.message_outcome (server_today s) m ≡ stepped p
  unfolding server_calls.message_outcome_up_to
  server_message_goes_on m p e =
      let (a, b) = passed (not (format.valid m)) (never NumberOutOfRange p) (rw F.sound at e) in
      rw (T.valid, a) (received_goes_on m p b)

  pub server_suspect_goes_on : server_calls.suspect_outcome (server_today s) ≡ server_calls.suspect_outcome s
  unfolding server_calls.suspect_outcome
  server_suspect_goes_on = rw (T.valid, F.sound, T.shows)

  pub server_check_goes_on : server_calls.check_outcome (server_today s) ≡ server_calls.check_outcome s
  unfolding server_calls.check_outcome
  server_check_goes_on = rw (T.valid, F.sound, T.shows)

  -- the step of an old player, whose record is of form 1
  pub server_as_before : sound_server earlier_queue earlier_servers ws ≡ true → (m : Message) (p : Step votes.State)
      → earlier_server_takes s m ≡ stepped p → server_calls.message_outcome (server_today s) m ≡ stepped p
  unfolding sound_server
  server_as_before e m p h =
      let (a, b) = both (holds_server_of earlier_queue ws) (server.valid_up_to earlier_servers s) e in
      server_message_goes_on m p (known m p (sym (server-known s m b) ∙ h))
    where
      known : (m : Message) (p : Step votes.State) → take_known m (server_calls.message_outcome s m) ≡ stepped p → server_calls.message_outcome s m ≡ stepped p
      known m p g =
          ⊎_elim
          (λ (q : earlier_knows m ≡ true). rw q at g)
          (λ (q : earlier_knows m ≡ false). never NumberOutOfRange p (rw q at g))
          (decided (earlier_knows m))

  -- what a step leaves is the record of today with its state, so that the next one goes on from there
  pub server_stays_today : (p : Step votes.State)
      → server_calls.server_after (server_today s) (stepped p) ≡ server.store s.head.n s.head.id p.state
  server_stays_today p = rw F.today

-- a client's record: all its calls
module _ (ws : List ℕ) (v : saved_client ws ≡ true) where
  abbrev c : Client
  c = saved_as ws

  abbrev K : ClientTaken ws
  K = client_taken_over ws v

  same_head : (client_today c).head ≡ c.head
  unfolding client.store_in client.view
  same_head = refl

  received_on : (m : Message) → client_calls.received (client_today c) m ≡ client_calls.received c m
  received_on (Request k j t) = refl
  received_on (Yield k j t) = refl
  received_on (Release k j t) = refl
  received_on (Inquiry k j t) = refl
  received_on (Response k j o) = rw (K.shows, same_head)
  received_on (Check k j t) = rw (K.shows, same_head)

  pub client_message_goes_on : (m : Message) → client_calls.message_outcome (client_today c) m ≡ client_calls.message_outcome c m
  unfolding client_calls.message_outcome_up_to
  client_message_goes_on m = rw (K.valid, client_was_valid ws v, received_on m)

  pub client_begin_goes_on : client_calls.begin_outcome (client_today c) ≡ client_calls.begin_outcome c
  unfolding client_calls.begin_outcome
  client_begin_goes_on = rw (K.valid, client_was_valid ws v, K.shows, same_head)

  pub client_exit_goes_on : client_calls.exit_outcome (client_today c) ≡ client_calls.exit_outcome c
  unfolding client_calls.exit_outcome
  client_exit_goes_on = rw (K.valid, client_was_valid ws v, K.shows, same_head)

  -- an old client, whose record is of form 1, leaves what this one does but for what it has seen
  pub client_as_before : length ws ≡ earlier_size_of earlier_responses → (m : Message)
      → earlier_client_takes c m ≡ take_known m (leaving_blind (client_calls.message_outcome (client_today c) m))
  unfolding sound_client
  client_as_before l m =
      let e : sound_client earlier_responses earlier_servers (ordered ws) ≡ true =
      ap (λ (x : List ℕ). sound_client earlier_responses earlier_servers x) (ordered_earlier ws (omega (arith, l))) ∙ (sym (client_form_1 ws l) ∙ v) in
      let (a, b) = both (holds_client_of earlier_responses (ordered ws)) (client.valid_up_to earlier_servers c) e in
      client-known c m b ∙ ap (λ (o : Outcome responses.State). take_known m (leaving_blind o)) (sym (client_message_goes_on m))

  -- and so does one from between L3 and L4, whose record is of form 2
  pub client_as_then : (m : Message) → clockless_takes max_servers c m ≡ leaving_blind (client_calls.message_outcome (client_today c) m)
  client_as_then m = clockless_known c m ∙ ap leaving_blind (sym (client_message_goes_on m))

  -- a record from before L4 has seen nothing, so that a try made at once takes the last timestamp plus one, as it would have
  pub tries_as_before : (length ws ≡ client_size → ⊥) → responses.taken (client.view (client_today c)) ≡ responses.next (client.view c).timestamp
  tries_as_before n =
      let z : (responses.latest (client.view c)).0 ≡ (client.view c).timestamp.0 = omega (arith, seen_nothing ws (earlier_head_lem ws v n) n) in
      ap responses.taken K.shows ∙ ap responses.next (λ i. record { 0 = z i })

  pub client_stays_today : (p : Step responses.State)
      → client_calls.client_after (client_today c) (stepped p) ≡ client.store c.head.n c.head.m c.head.id p.state
  unfolding client.store_in client.view
  client_stays_today p = after-stored client.max_places (client_today c) p (client_today-long ws v)
