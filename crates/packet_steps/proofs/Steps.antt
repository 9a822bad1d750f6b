-- What an accepted step wrote is packed without a refusal but 6: every number in it is in range, and it is far shorter than a packet may be.
use Rattle.ids.specs.declared.Request.{Request as Pair}
use Rattle.std.specs.Prelude.{Some, None, Option}
use Prim.Native.Nat.{ℕ, ◌+◌, ◌*◌, ◌≤◌}
use native.Mathlib.Omega.{arith}
use mathlib.Core.Path.{◌≡◌, refl, sym, ap, ◌∙◌}
use mathlib.Core.Bool.{true, not}
use mathlib.Core.List.{List, ◌++◌}
use lib.Dec.{eqb, ltb}
use lib.ListN.{length, take, drop}
use lib.Seq.{sets, sets-eq, take_at}
use borrow.Author.Tests.{leb-true, le-leb, ltb-false, not-false}
use Rattle.ids.specs.Limits.{max_servers, within, valid_server, valid_stamped}
use Rattle.ids.specs.Lists.{every}
use Rattle.ids.specs.Requests.{by_owner}
use Rattle.ids.specs.declared.ClientId.{ClientId}
use Rattle.ids.specs.declared.ServerId.{ServerId}
use Rattle.ids.specs.declared.Timestamp.{Timestamp}
use Rattle.ids.specs.declared.Refusal.TheVariants.{InvalidRecord, NumberOutOfRange, RoomShort, WrongSection, TimestampsSpent, NotForClient, NotForServer, QueueFull, NoOwner}
use Rattle.ids.proofs.Choice.{both, passed}
use Rattle.ids.proofs.LimitsLaws.{within-range, stamped_request}
use Rattle.wire.specs.Format as format
use Rattle.wire.specs.Format.{bytes_of_all, size_of_all}
use Rattle.wire.specs.Step.{Step, Outcome, refused, stepped, with_room, sent_into}
use Rattle.wire.specs.declared.Message.{Message}
use Rattle.wire.specs.declared.Message.TheVariants.{Request, Yield, Release, Inquiry, Response, Check}
use Rattle.wire.proofs.Sequence.{length-bytes_of_all}
use Rattle.client_responses.specs.Figure1 as client_figure
use Rattle.client.specs.Record as client
use Rattle.client.specs.Calls as client_calls
use Rattle.client.specs.declared.Client.{Client}
use Rattle.client.proofs.ValidLaws.{valid-known}
use Rattle.client.proofs.StepLaws.{its-client}
use Rattle.client.proofs.KeepsValid.{Fits, view-fits, taken}
use Rattle.server_votes.specs.Figure1 as server_figure
use Rattle.server_votes.specs.declared.Tag.{Tag}
use Rattle.server_votes.specs.declared.Tag.TheVariants.{Request as REQUEST, Yield as YIELD, Release as RELEASE, Inquiry as INQUIRY}
use Rattle.server.specs.Record as server
use Rattle.server.specs.Calls as server_calls
use Rattle.server.specs.declared.Server.{Server}
use Rattle.server.proofs.KeepsValid.{view-good}
use Rattle.sends.proofs.ServerSends as of_server
use Rattle.sends.proofs.ServerSends.{never, entered}
use Rattle.sends.proofs.ClientSends as of_client
use Rattle.packet.specs.Packet.{total_bytes, max_total}
use Rattle.packet_steps.specs.Packs.{Packs}
use Rattle.packet.proofs.RoundTrip.{messages-packed, packed_messages_read}

-- of messages in range that fit the buffer and a packet
written-packs : (buffer : List ℕ) (ms : List Message) → size_of_all ms ≤ length buffer → every format.valid ms ≡ true → total_bytes + size_of_all ms ≤ max_total
    → Packs (sets buffer 0 (bytes_of_all ms)) ms
written-packs buffer ms room v short =
    let l = length-bytes_of_all ms in
    let s : sets buffer 0 (bytes_of_all ms) ≡ bytes_of_all ms ++ drop (0 + length (bytes_of_all ms)) buffer = sets-eq (bytes_of_all ms) buffer 0 (omega arith) in
    let t : take (size_of_all ms) (sets buffer 0 (bytes_of_all ms)) ≡ bytes_of_all ms =
    ap (take (size_of_all ms)) s ∙ take_at (bytes_of_all ms) (drop (0 + length (bytes_of_all ms)) buffer) (size_of_all ms) l in
    record { packs = λ r. rw t (messages-packed ms v short r); arrives = λ x. rw t (packed_messages_read ms v short x) }

-- an outcome that stands with the room there is
room-kept : {A : Type 0} (room : ℕ) (o : Outcome A) (p : Step A) → with_room room o ≡ stepped p → (o ≡ stepped p) × (size_of_all p.sent ≤ room)
unfolding with_room
room-kept room (refused x) p h = absurd (never x p h)
room-kept room (stepped s) p h =
    let (a, b) = passed (ltb room (size_of_all s.sent)) (never RoomShort p) h in
    let e : s ≡ p = cc in
    rw (← e) (refl, ltb-false _ _ a)

-- of a step whose messages are in range and as few as the machines send
step-packs : {A : Type 0} (buffer : List ℕ) (o : Outcome A) (p : Step A) → with_room (length buffer) o ≡ stepped p → every format.valid p.sent ≡ true
    → total_bytes + size_of_all p.sent ≤ max_total → Packs (sent_into buffer (with_room (length buffer) o)) p.sent
step-packs buffer o p h v short = rw h (written-packs buffer p.sent (room-kept (length buffer) o p h).1 v short)

-- a client's accepted steps
module _ (c : Client) (p : Step client_figure.State) where
  abbrev n : ℕ
  n = c.head.n

  fits : client.valid c ≡ true → Fits n c.head.m c.head.id (client.view c)
  fits v = view-fits c (valid-known c v)

  received-valid : client.valid c ≡ true → (m : Message) → format.valid m ≡ true → client_calls.received c m ≡ stepped p → every format.valid p.sent ≡ true
  received-valid v (Request k j t) w e = absurd (never NotForClient p e)
  received-valid v (Yield k j t) w e = absurd (never NotForClient p e)
  received-valid v (Release k j t) w e = absurd (never NotForClient p e)
  received-valid v (Inquiry k j t) w e = absurd (never NotForClient p e)
  received-valid v (Response k j o) w e =
      let (a, b) = taken (client_calls.for_client c.head k j) (never NotForClient p) e in
      let i = its-client c.head c.row k j true (sym a) refl in
      let g : client_figure.responds (client_figure.enough c.head.m) n k j o (client.view c) ≡ p = cc in
      let r = of_client.responds-valid n c.head.m c.head.id (client.view c) (fits v) (client_figure.enough c.head.m) j o in
      rw (← g, i) r
  received-valid v (Check k j t) w e =
      let f = entered (client_calls.for_client c.head k j) (never NotForClient p) e in
      let g : client_figure.checked k j t (client.view c) ≡ p = cc in
      rw (← g) (of_client.checked-valid k j t (client.view c) w)

  message-valid : (m : Message) → client_calls.message_outcome c m ≡ stepped p → every format.valid p.sent ≡ true
  unfolding client_calls.message_outcome_up_to
  message-valid m e =
      let (a, h₁) = passed (not (client.valid c)) (never InvalidRecord p) e in
      let (b, h₂) = passed (not (format.valid m)) (never NumberOutOfRange p) h₁ in
      received-valid (not-false _ a) m (not-false _ b) h₂

  begin_valid : client_calls.begin_outcome c ≡ stepped p → every format.valid p.sent ≡ true
  unfolding client_calls.begin_outcome
  begin_valid e =
      let (a, h₁) = passed (not (client.valid c)) (never InvalidRecord p) e in
      let h₂ = entered (client_figure.is_remainder (client.view c).section) (never WrongSection p) h₁ in
      let (b, h₃) = taken (client_figure.may_try (client.view c)) (never TimestampsSpent p) h₂ in
      let g : client_figure.tries n c.head.id (client.view c) ≡ p = cc in
      rw (← g) (of_client.tries-valid n c.head.m c.head.id (client.view c) (fits (not-false _ a)) (leb-true _ _ b))

  exit_valid : client_calls.exit_outcome c ≡ stepped p → every format.valid p.sent ≡ true
  unfolding client_calls.exit_outcome
  exit_valid e =
      let (a, h₁) = passed (not (client.valid c)) (never InvalidRecord p) e in
      let (b, h₂) = taken (client_figure.is_critical (client.view c).section) (never WrongSection p) h₁ in
      let g : client_figure.exits n c.head.id (client.view c) ≡ p = cc in
      rw (← g) (of_client.exits-valid n c.head.m c.head.id (client.view c) (fits (not-false _ a)) b)

  short : of_client.Accepted c p → total_bytes + size_of_all p.sent ≤ max_total
  short s = omega (arith, s.most.small, (fits s.before).ranges.few)

  module _ (buffer : List ℕ) where
    abbrev into : Outcome client_figure.State → List ℕ
    into o = sent_into buffer (with_room (length buffer) o)

    pub client_message-packs : (m : Message) → with_room (length buffer) (client_calls.message_outcome c m) ≡ stepped p
        → Packs (into (client_calls.message_outcome c m)) p.sent
    client_message-packs m h =
        let e = (room-kept (length buffer) (client_calls.message_outcome c m) p h).0 in
        step-packs buffer (client_calls.message_outcome c m) p h (message-valid m e) (short (of_client.message-accepted c p m e))

    pub client_begin-packs : with_room (length buffer) (client_calls.begin_outcome c) ≡ stepped p → Packs (into (client_calls.begin_outcome c)) p.sent
    client_begin-packs h =
        let e = (room-kept (length buffer) (client_calls.begin_outcome c) p h).0 in
        step-packs buffer (client_calls.begin_outcome c) p h (begin_valid e) (short (of_client.begin_accepted c p e))

    pub client_exit-packs : with_room (length buffer) (client_calls.exit_outcome c) ≡ stepped p → Packs (into (client_calls.exit_outcome c)) p.sent
    client_exit-packs h =
        let e = (room-kept (length buffer) (client_calls.exit_outcome c) p h).0 in
        step-packs buffer (client_calls.exit_outcome c) p h (exit_valid e) (short (of_client.exit_accepted c p e))

-- a server's
module _ (s : Server) (p : Step server_figure.State) where
  module _ (v : server.valid s ≡ true) where
    its-id : valid_server s.head.id ≡ true
    its-id =
        let (a, b) = both (within s.head.n max_servers) (within s.head.id.0 s.head.n) (view-good max_servers s v).0 in
        let (x, y) = within-range s.head.n max_servers a in
        let (z, w) = within-range s.head.id.0 s.head.n b in
        rw (le-leb 1 s.head.id.0 z, le-leb s.head.id.0 max_servers (omega arith))

    taken-valid : (tag : Tag) (k : ClientId) (j : ServerId) (t : Timestamp) → valid_stamped k j t ≡ true → server_calls.taken s tag k j t ≡ stepped p
        → every format.valid p.sent ≡ true
    taken-valid tag k j t w e =
        let x : Step server_figure.State = server_figure.receive s.head.id tag (record { client = k; timestamp = t }) (server.view s) in
        let (b, f) = passed (ltb (length s.row) (2 * length x.state.queue)) (never QueueFull p)
        (entered (eqb j.0 s.head.id.0) (never NotForServer p) e) in
        let g : x ≡ p = cc in
        let q = stamped_request max_servers k j t w in
        rw (← g) (of_server.receive-valid s.head.id its-id tag (record { client = k; timestamp = t }) (server.view s) q (view-good max_servers s v).1)

    server_received_valid : (m : Message) → format.valid m ≡ true → server_calls.received s m ≡ stepped p → every format.valid p.sent ≡ true
    unfolding format.valid_up_to
    server_received_valid (Request k j t) w e = taken-valid REQUEST k j t w e
    server_received_valid (Yield k j t) w e = taken-valid YIELD k j t w e
    server_received_valid (Release k j t) w e = taken-valid RELEASE k j t w e
    server_received_valid (Inquiry k j t) w e = taken-valid INQUIRY k j t w e
    server_received_valid (Response k j o) w e = absurd (never NotForServer p e)
    server_received_valid (Check k j t) w e = absurd (never NotForServer p e)

    suspected-valid : (o : Option Pair)
        → by_owner {B = Outcome server_figure.State} o (refused NoOwner) (λ x. stepped (server_figure.suspect s.head.id (server.view s))) ≡ stepped p
        → every format.valid p.sent ≡ true
    suspected-valid None e = absurd (never NoOwner p e)
    suspected-valid (Some x) e =
        let g : server_figure.suspect s.head.id (server.view s) ≡ p = cc in
        rw (← g) (of_server.suspect-valid s.head.id its-id (server.view s) (view-good max_servers s v).1)

  server_message-valid : (m : Message) → server_calls.message_outcome s m ≡ stepped p → every format.valid p.sent ≡ true
  unfolding server_calls.message_outcome_up_to
  server_message-valid m e =
      let (a, h₁) = passed (not (server.valid s)) (never InvalidRecord p) e in
      let (b, h₂) = passed (not (format.valid m)) (never NumberOutOfRange p) h₁ in
      server_received_valid (not-false _ a) m (not-false _ b) h₂

  suspect-valid : server_calls.suspect_outcome s ≡ stepped p → every format.valid p.sent ≡ true
  unfolding server_calls.suspect_outcome
  suspect-valid e = let (a, h) = passed (not (server.valid s)) (never InvalidRecord p) e in suspected-valid (not-false _ a) s.head.votes.owner h

  check-valid : server_calls.check_outcome s ≡ stepped p → every format.valid p.sent ≡ true
  unfolding server_calls.check_outcome
  check-valid e =
      let (a, h) = passed (not (server.valid s)) (never InvalidRecord p) e in
      let g : server_figure.check s.head.id (server.view s) ≡ p = cc in
      rw (← g) (of_server.check-valid s.head.id (its-id (not-false _ a)) (server.view s) (view-good max_servers s (not-false _ a)).1)

  server-short : of_server.Accepted s p → total_bytes + size_of_all p.sent ≤ max_total
  server-short a = omega (arith, a.small)

  module _ (buffer : List ℕ) where
    abbrev server-into : Outcome server_figure.State → List ℕ
    server-into o = sent_into buffer (with_room (length buffer) o)

    pub server_message-packs : (m : Message) → with_room (length buffer) (server_calls.message_outcome s m) ≡ stepped p
        → Packs (server-into (server_calls.message_outcome s m)) p.sent
    server_message-packs m h =
        let e = (room-kept (length buffer) (server_calls.message_outcome s m) p h).0 in
        step-packs buffer (server_calls.message_outcome s m) p h (server_message-valid m e) (server-short (of_server.message-accepted s p m e))

    pub server_suspect-packs : with_room (length buffer) (server_calls.suspect_outcome s) ≡ stepped p
        → Packs (server-into (server_calls.suspect_outcome s)) p.sent
    server_suspect-packs h =
        let e = (room-kept (length buffer) (server_calls.suspect_outcome s) p h).0 in
        step-packs buffer (server_calls.suspect_outcome s) p h (suspect-valid e) (server-short (of_server.suspect-accepted s p e))

    pub server_check-packs : with_room (length buffer) (server_calls.check_outcome s) ≡ stepped p → Packs (server-into (server_calls.check_outcome s)) p.sent
    server_check-packs h =
        let e = (room-kept (length buffer) (server_calls.check_outcome s) p h).0 in
        step-packs buffer (server_calls.check_outcome s) p h (check-valid e) (server-short (of_server.check-accepted s p e))
