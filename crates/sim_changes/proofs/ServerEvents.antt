-- The events in which a server makes a step: its call makes the event's step, and what is stored and sent is what the event leaves.
use Rattle.std.specs.Prelude.{Ok, Err, Some, None, Option}
use mathlib.Core.Path.{◌≡◌, refl, sym, ap, subst, ◌∙◌}
use Prim.Native.Nat.{ℕ, ◌+◌, ◌*◌, ◌-◌, ◌≤◌}
use native.Mathlib.Omega.{arith}
use mathlib.Core.Logic.{◌⊎◌, inl, inr}
use mathlib.Core.Bool.{Bool, true, false, ◌&&◌}
use mathlib.Core.List.{List}
use lib.Dec.{leb}
use lib.ListN.{length, drop}
use lib.Seq.{sets}
use borrow.Author.Tests.{le-leb, leb-true}
use Rattle.ids.specs.Lists.{every}
use Rattle.ids.specs.Limits.{max_servers, valid_request, valid_owner}
use Rattle.ids.specs.declared.ClientId.{ClientId}
use Rattle.ids.specs.declared.ServerId.{ServerId}
use Rattle.ids.specs.declared.Timestamp.{Timestamp}
use Rattle.ids.specs.declared.Request.{Request}
use Rattle.ids.specs.declared.Refusal.TheVariants.{NoOwner, OwnerLives, PartyDown}
use Rattle.ids.proofs.Choice.{both, holds, fails}
use Rattle.ids.proofs.LimitsLaws.{client-range, request-range}
use Rattle.wire.specs.Format as format
use Rattle.wire.specs.Step.{Step, refused, stepped}
use Rattle.rows.specs.Rows.{Padded}
use Rattle.server_votes.specs.Figure1 as votes
use Rattle.server_votes.specs.declared.Tag.{Tag}
use Rattle.server_votes.specs.declared.Tag.TheVariants as tag
use Rattle.server.specs.Record as server
use Rattle.server.specs.Record.{server_of}
use Rattle.server.specs.Parts.{three_mails}
use Rattle.server.specs.Rows.{Turns, ruling_of, sent_of}
use Rattle.server.specs.declared.Head.{Head}
use Rattle.server.specs.declared.Turned.{Turned}
use Rattle.server.specs.Calls.{server_after, taken, message_outcome, message_outcome_up_to}
use Rattle.server.specs.declared.Server.{Server}
use Rattle.server.proofs.RecordLaws.{valid-padded}
use Rattle.client_responses.specs.Figure1.{enough}
use Rattle.words.specs.Records.{server_from, server_head_from, server_words, server_head, max_word}
use Rattle.system.specs.declared.Event.TheVariants.{Miss}
use Rattle.system.specs.Numbered.{has, server_no}
use Rattle.system.specs.Transit.{replaced, keeping}
use Rattle.sim_indexed.specs.Indexed.{slot_in}
use Rattle.system.specs.Places.{System, ServerPlace, server_at}
use Rattle.system.specs.Events.{event, server_moves, server_took}
use Rattle.server_votes.proofs.Tagged.{message, message-request}
use Rattle.sim_blocks.specs.Blocks.{server_record, client_place, server_place, named_pair, server_block}
use Rattle.sim_blocks.proofs.Facts.{ServerBlock, server-facts, server-good}
use Rattle.sim_blocks.proofs.ServerLaws.{server_of as placed_server}
use Rattle.sim_blocks.proofs.ServerSteps.{check-outcome, check-short, suspect-outcome, suspect-short, receive-outcome, receive-short}
use Rattle.sim_blocks.proofs.ServerSteps.{server-after}
use Rattle.sim_layout.specs.Layout.{setting_of, length_of, transit_words, view, servers_from}
use Rattle.sim_layout.specs.Parts.{client_block_of, server_block_of, ServerIn}
use Rattle.sim_layout.proofs.PlaceLaws.{server-there}
use Rattle.sim_changes.specs.declared.ServerAct.{ServerAct}
use Rattle.sim_changes.specs.declared.ServerAct.TheVariants as act
use Rattle.sim_changes.specs.Happens.{happens, Leaves, moved_of}
use Rattle.sim_changes.specs.Changes.{Becomes, HasClient, HasServer, HasSlot, Missing, Pends, with_transit}
use Rattle.sim_changes.specs.Inner.{CanSend, has_room, with_server, sending, server_outcome, server_step, server_rest, ServerStores, server_stored}
use Rattle.sim_changes.specs.Changes.{number_at, tagged}
use Rattle.sim_changes.specs.Acts.{ServerMay, server_event}
use Rattle.sim_changes.proofs.Answers.{checks, checks_down, misses, misses_nobody, misses-living, misses-down}
use Rattle.sim_changes.proofs.Becoming.{sound, few_clients}
use Rattle.sim_changes.proofs.Leaving.{leaves_refused}
use Rattle.sim_changes.proofs.Parties.{server_in_lem, living-is, up_is}
use Rattle.sim_changes.proofs.SentLaws.{Sends, check-sends, suspect-sends, receive-sends}
use Rattle.sim_changes.proofs.Storing.{server-block, server-is, check-stored, suspect-stored, receive-stored}
use Rattle.sim_changes.proofs.Sending.{Ruled, ruled_sendable, ruled-sent, steps_by, view-all, and_then}
use Rattle.sim_changes.proofs.Taking.{parties, taking_server, ranged, tagged-goes, length-kept, needed, unmet}

pub still-server : {w w₁ : List ℕ} {j : ℕ} {u : System} → Becomes w w₁ u → HasServer w (server_no j) → HasServer w₁ (server_no j)
still-server B H = record { valid = B.again; first = H.first; last = rw B.setting H.last }

-- the record whose head and row were read
pub server_read : (h : Head) (row ws : List ℕ) → h ≡ server_head_from ws → row ≡ drop server_head ws → server_of h row ≡ server_from ws
server_read h row ws p q = λ i. server_of (p i) (q i)

-- server j, which is there
module _ (w : List ℕ) (j : ServerId) (H : HasServer w j) where
  abbrev its : Server
  its = server_from (server_record (server_block_of w j))

  pub server_there_in : has (view w).servers j.0 ≡ true
  server_there_in = server-there w j.0 ∙ rw (le-leb 1 j.0 H.first, le-leb j.0 (setting_of w).n H.last)

  its-facts : ServerBlock (setting_of w).n (setting_of w).clients j.0 (server_block_of w j)
  its-facts = server-facts (setting_of w).n (setting_of w).clients j.0 (server_block_of w j) (server-block w j.0 H)

  its-after : (p : Step votes.State) → server_after its (stepped p) ≡ placed_server (setting_of w).n j.0 p.state
  its-after p = server-after (setting_of w).n (setting_of w).clients j.0 (server_block_of w j) (server-block w j.0 H) p

  pub server-padded : (h : Head) (row : List ℕ) → server_of h row ≡ server_from (server_record (server_block_of w j)) → Padded row h.votes.len
  server-padded h row q = valid-padded max_servers (server_of h row) (rw q its-facts.valid)

  -- the owner of a server that is up
  module _ (up : (server_at (view w) j).up ≡ true) (x : Option Request) (e : x ≡ (server_at (view w) j).state.owner) where
    pub miss_nobody : x ≡ None → Leaves w (Miss j) w × (Err NoOwner ≡ moved_of (happens w (Miss j)))
    miss_nobody f = leaves_refused w (Miss j) NoOwner H.valid
        (misses_nobody (setting_of w).n (enough (setting_of w).m) (view w) j server_there_in up (sym e ∙ f))

    module _ (o : Request) (f : x ≡ Some o) where
      its-owner : (server_place (server_block_of w j)).state.owner ≡ Some o
      its-owner = ap (λ (p : ServerPlace). p.state.owner) (sym (server-is w j.0 H)) ∙ (sym e ∙ f)

      owner_in_range : (1 ≤ o.client.0) × (o.client.0 ≤ (setting_of w).clients)
      unfolding valid_owner
      owner_in_range =
          let b = server_block_of w j in
          let B = server-facts (setting_of w).n (setting_of w).clients j.0 b (server-block w j.0 H) in
          let v : valid_request o ≡ true = rw its-owner at (server-good (setting_of w).n (setting_of w).clients j.0 b B).owner in
          let d : leb o.client.0 (setting_of w).clients && every (named_pair (setting_of w).clients) (server_place b).state.queue ≡ true =
          rw its-owner at B.names in (
            (client-range o.client (request-range o v).0).0,
            leb-true _ _
                (both (leb o.client.0 (setting_of w).clients) (every (named_pair (setting_of w).clients) (server_place b).state.queue) d).0,
          )

      pub owner-client : HasClient w o.client
      owner-client = record { valid = H.valid; first = owner_in_range.0; last = owner_in_range.1 }

      module _ (r : Bool) (g : r ≡ (client_place (client_block_of w o.client)).living) where
        pub miss-living : r ≡ true → Leaves w (Miss j) w × (Err OwnerLives ≡ moved_of (happens w (Miss j)))
        miss-living t =
            leaves_refused w (Miss j) OwnerLives H.valid
            (misses-living (setting_of w).n (enough (setting_of w).m) (view w) j server_there_in up o (sym e ∙ f)
            (living-is w o.client.0 owner-client r g ∙ t))

        pub owner_missing : r ≡ false → Missing w j
        owner_missing t = record { there = H; up = up; owner = o; owns = sym e ∙ f; fallen = living-is w o.client.0 owner-client r g ∙ t }

-- The call of server j's act makes its event's step.
record ServerDoes (w : List ℕ) (j : ServerId) (a : ServerAct) : Type 0 where
  out : server_outcome a j (server_from (server_record (server_block_of w j))) ≡ stepped (server_step w j a)
  is : event (setting_of w).n (enough (setting_of w).m) (view w) (server_event w j a) ≡ stepped (server_moves (view w) j (server_rest w a) (server_step w j a))
  sends : Sends (setting_of w).n (setting_of w).clients (server_step w j a).sent
  short : length (server_step w j a).state.queue ≤ (setting_of w).clients
  all : length (server_rest w a) ≡ length_of w - 0

taken_as : (s : Server) (x : Tag) (k : ClientId) (j : ServerId) (t : Timestamp) → server.valid s ≡ true → format.valid (message x k j t) ≡ true
    → message_outcome s (message x k j t) ≡ taken s x k j t
unfolding message_outcome_up_to
taken_as s tag.Request k j t v m = rw (v, m)
taken_as s tag.Yield k j t v m = rw (v, m)
taken_as s tag.Release k j t v m = rw (v, m)
taken_as s tag.Inquiry k j t v m = rw (v, m)

module _ (w : List ℕ) (j : ServerId) where
  abbrev n : ℕ
  n = (setting_of w).n

  abbrev clients : ℕ
  clients = (setting_of w).clients

  abbrev block : List ℕ
  block = server_block_of w j

  abbrev wins : List Bool → Bool
  wins = enough (setting_of w).m

  pub act-server : (a : ServerAct) → ServerMay w j a → HasServer w j
  act-server act.Check H = H
  act-server act.Suspect M = M.there
  act-server (act.Take i x k t) P = taking_server w i x k j t P

  -- a server that is down
  act-down : (a : ServerAct) → ServerMay w j a → (server_at (view w) j).up ≡ false → event n wins (view w) (server_event w j a) ≡ refused PartyDown
  act-down act.Check H h = checks_down n wins (view w) j (server_there_in w j H) h
  act-down act.Suspect M h = misses-down n wins (view w) j (server_there_in w j M.there) h
  act-down (act.Take i x k t) P h = tagged-goes w i x k j t P ∙ unmet (server_at (view w) j).up (server_took (view w) (number_at w i).0 x k j t) h

  module _ (a : ServerAct) (M : ServerMay w j a) (b : Bool) (f : b ≡ (server_place (server_block_of w j)).up) where
    up-here : b ≡ (server_at (view w) j).up
    up-here = sym (up_is w j.0 (act-server a M) b f)

    pub server-down : b ≡ false → Leaves w (server_event w j a) w × (Err PartyDown ≡ moved_of (happens w (server_event w j a)))
    server-down u = leaves_refused w (server_event w j a) PartyDown (act-server a M).valid (act-down a M (fails b _ up-here u))

    pub server-runs : b ≡ true → (server_at (view w) j).up ≡ true
    server-runs u = holds b _ up-here u

  module _ (i : ℕ) (x : Tag) (k : ClientId) (t : Timestamp) (P : Pends w i (tagged x k j t)) where
    abbrev asker : Request
    asker = record { client = k; timestamp = t }

    asker-valid : valid_request asker ≡ true
    asker-valid = message-request x k j t (ranged w i x k j t P)

    asker-there : leb k.0 (setting_of w).clients ≡ true
    asker-there = le-leb k.0 (setting_of w).clients (parties w i x k j t P).client

  module _ (up : (server_at (view w) j).up ≡ true) where
    take_does : (i : ℕ) (x : Tag) (k : ClientId) (t : Timestamp) → Pends w i (tagged x k j t) → ServerDoes w j (act.Take i x k t)
    take_does i x k t P =
        let H = taking_server w i x k j t P in
        let ok = server-block w j.0 H in
        let r : Request = record { client = k; timestamp = t } in
        let v = asker-valid i x k t P in
        let there = asker-there i x k t P in
        let range = ranged w i x k j t P in
        record {
          out = sym (taken_as (its w j H) x k j t (its-facts w j H).valid range)
              ∙ (receive-outcome n clients j.0 block ok x k t range there (few_clients w (sound w P.slot.valid))
              ∙ ap (λ (q : ServerPlace). stepped (votes.receive j x r q.state)) (sym (server-is w j.0 H)));
          is = tagged-goes w i x k j t P ∙ needed (server_at (view w) j).up (server_took (view w) (number_at w i).0 x k j t) up;
          sends = rw (server-is w j.0 H) (receive-sends n clients j.0 block ok x r v there);
          short = rw (server-is w j.0 H) (receive-short n clients j.0 block ok x r there v);
          all = length-kept w i P.slot;
        }

    does : (a : ServerAct) → ServerMay w j a → ServerDoes w j a
    does act.Check H =
        let ok = server-block w j.0 H in
        let e = server-is w j.0 H in
        record {
          out = rw e (check-outcome n clients j.0 block ok);
          is = checks n wins (view w) j (server_there_in w j H) up;
          sends = rw e (check-sends n clients j.0 block ok);
          short = rw e (check-short n clients j.0 block ok);
          all = view-all w;
        }
    does act.Suspect M =
        let H = M.there in
        let ok = server-block w j.0 H in
        let e = server-is w j.0 H in
        record {
          out = rw e (suspect-outcome n clients j.0 block ok M.owner (rw e at M.owns));
          is = misses n wins (view w) j (server_there_in w j H) M.up M.owner M.owns M.fallen;
          sends = rw e (suspect-sends n clients j.0 block ok);
          short = rw e (suspect-short n clients j.0 block ok);
          all = view-all w;
        }
    does (act.Take i x k t) P = take_does i x k t P

-- Server j's call was accepted: its ruling and messages are those of the event's step, and its record is the step's.
pub record ServerCalled (w : List ℕ) (j : ServerId) (a : ServerAct) (r : Turned) (row : List ℕ) : Type 0 where
  pub ruled : Ruled w (server_event w j a) (server_step w j a).sent (server_moves (view w) j (server_rest w a) (server_step w j a))
      r.ruling (three_mails r.first r.second r.third)
  pub stores : ServerStores w j a r.head row
  pub all : length (server_rest w a) ≡ length_of w - 0

-- the call of server j, which is up, on its record
module _ (w : List ℕ) (j : ServerId) (a : ServerAct) (M : ServerMay w j a) (up : (server_at (view w) j).up ≡ true)
    (h : Head) (row : List ℕ) (q : server_of h row ≡ server_from (server_record (server_block_of w j))) (r : Turned) (row' : List ℕ)
    (T : Turns h row (server_outcome a j (server_of h row)) r row') where
  abbrev mine : Server
  mine = server_from (server_record (server_block_of w j))

  abbrev doing : ServerDoes w j a
  doing = does w j up a M

  turns : Turns mine.head mine.row (server_outcome a j mine) r row'
  turns = subst (λ (x : Server). Turns x.head x.row (server_outcome a j x) r row') q T

  left_record : server_of r.head row' ≡ server_after mine (stepped (server_step w j a))
  left_record =
      let g : server_of r.head row' ≡ server_after mine (server_outcome a j mine) = let x = turns.head in let y = turns.row in λ i. server_of (x i) (y i) in
      g ∙ ap (server_after mine) doing.out

  left-short : r.head.votes.len ≤ max_word
  left-short =
      let H = act-server w j a M in
      let e = left_record ∙ its-after w j H (server_step w j a) in
      omega (arith, ap (λ (x : Server). x.head.votes.len) e, doing.short, few_clients w (sound w H.valid))

  pub server-called : ServerCalled w j a r row'
  server-called =
      let s = server_moves (view w) j (server_rest w a) (server_step w j a) in
      record {
        ruled = record {
          ok = (act-server w j a M).valid;
          steps = steps_by w (server_event w j a) 0 (server_rest w a) (server_step w j a).sent s doing.is doing.all refl refl refl doing.sends;
          done = turns.ruled ∙ ap ruling_of doing.out;
          told = turns.sent ∙ ap sent_of doing.out;
        };
        stores = record { may = M; up = up; left = left_record; short = left-short };
        all = doing.all;
      }

-- the laws of each way out: words w₁ have the server's record, and words w₂ its messages
module _ {w : List ℕ} {j : ServerId} {a : ServerAct} {r : Turned} {row : List ℕ} (C : ServerCalled w j a r row)
    (count : ℕ) (f : count ≡ length (three_mails r.first r.second r.third)) (b : Bool) (h : b ≡ has_room w 0 count) (t : b ≡ true)
    (w₁ : List ℕ) (B : Becomes w w₁ (server_stored w j a)) where
  pub server_sendable : CanSend w₁ (three_mails r.first r.second r.third)
  server_sendable = ruled_sendable C.ruled count f b h t w₁ _ B C.all refl

  pub server-sent : (w₂ : List ℕ) → Becomes w₁ w₂ (sending (view w₁) (three_mails r.first r.second r.third))
      → Leaves w (server_event w j a) w₂ × (Ok count ≡ moved_of (happens w (server_event w j a)))
  server-sent w₂ D = ruled-sent C.ruled count f b h t w₁ w₂ _ B D refl refl

-- The record is stored, with the message that was taken delivered: the act is known by an equation, as in the arms of a match.
module _ {w : List ℕ} {j : ServerId} {a : ServerAct} {h : Head} {row : List ℕ} (S : ServerStores w j a h row) where
  storing_server : HasServer w j
  storing_server = act-server w j a S.may

  pub storing_in : ServerIn w j
  storing_in = server_in_lem w j.0 storing_server

  pub storing_still : {w₁ : List ℕ} {u : System} → Becomes w w₁ u → ServerIn w₁ j
  storing_still {w₁} B = server_in_lem w₁ j.0 (still-server B storing_server)

  stored_as : server_of h row ≡ placed_server (setting_of w).n j.0 (server_step w j a).state
  stored_as = S.left ∙ its-after w j storing_server (server_step w j a)

  module _ {w₁ : List ℕ} (z : w₁ ≡ sets w (servers_from + server_block * (j.0 - 1)) (sets (server_block_of w j) 1 (server_words (server_of h row)))) where
    pub ask_stored : (a ≡ act.Check) ⊎ (a ≡ act.Suspect) → Becomes w w₁ (server_stored w j a)
    ask_stored (inl e) = rw e (rw S.up at (check-stored w j.0 storing_server (server_of h row) w₁ z (rw e at stored_as)))
    ask_stored (inr e) = rw e (rw S.up at (suspect-stored w j.0 storing_server (server_of h row) w₁ z (rw e at stored_as)))

  module _ (i : ℕ) (x : Tag) (k : ClientId) (t : Timestamp) (e : a ≡ act.Take i x k t) where
    pends : Pends w i (tagged x k j t)
    pends = let T = rw e at S in T.may

    pub take-slot : HasSlot w i
    take-slot = pends.slot

    pub take-stored : {w₁ w₂ : List ℕ} → Becomes w w₁ (with_transit (view w) (replaced (slot_in (transit_words w) i).number keeping (view w).transit))
        → w₂ ≡ sets w₁ (servers_from + server_block * (j.0 - 1)) (sets (server_block_of w₁ j) 1 (server_words (server_of h row)))
        → Becomes w w₂ (server_stored w j a)
    take-stored {w₁} {w₂} B z =
        let r : Request = record { client = k; timestamp = t } in
        let step : System → votes.State = λ u. (votes.receive j x r (server_at u j).state).state in
        let same : step (view w) ≡ step (view w₁) = ap step (sym B.system) in
        let q : server_of h row ≡ placed_server (setting_of w).n j.0 (step (view w)) = rw e at stored_as in
        let D = receive-stored w₁ j.0 (still-server B storing_server) (server_of h row) w₂ z x r
        (rw B.setting (asker-there w j i x k t pends)) (asker-valid w j i x k t pends) (rw (B.setting, ← same) q) in
        rw e (rw S.up at (and_then (λ u. with_server u j (record { up = (server_at u j).up; state = step u })) B D))
