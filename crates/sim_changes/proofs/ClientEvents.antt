-- The events in which a client makes a step: its call's outcome is the event's, and what is stored and sent is what the event leaves.
use Rattle.ids.specs.declared.Request.{Request}
use Rattle.wire.specs.declared.Sent.{Sent}
use Rattle.std.specs.Prelude.{Ok, Err, Result, Some, None, Option}
use mathlib.Core.Path.{◌≡◌, refl, sym, ap, subst, ◌∙◌}
use Prim.Native.Nat.{ℕ, zero, suc, zero-le, ◌+◌, ◌*◌, ◌-◌, ◌≤◌, max}
use native.Mathlib.Omega.{arith}
use mathlib.Core.Bool.{Bool, true, false}
use mathlib.Core.List.{List, []}
use mathlib.Core.Logic.{⊎_elim}
use lib.ListN.{length, drop, replicate}
use lib.Seq.{sets, set-set}
use borrow.Author.Tests.{le-leb}
use Rattle.ids.specs.Limits.{max_servers}
use Rattle.ids.specs.declared.ClientId.{ClientId}
use Rattle.ids.specs.declared.ServerId.{ServerId}
use Rattle.ids.specs.declared.Timestamp.{Timestamp}
use Rattle.ids.specs.declared.Refusal.{Refusal}
use Rattle.ids.specs.declared.Refusal.TheVariants.{WrongSection, TimestampsSpent, PartyDown, SystemFull}
use Rattle.ids.proofs.Choice.{decided, holds, fails}
use Rattle.wire.specs.Format.{owner_client}
use Rattle.wire.specs.Step.{Step, Outcome, refused, stepped, with_room, answer_of, sent_into}
use Rattle.wire.specs.declared.Message.TheVariants.{Response, Check}
use Rattle.client_responses.specs.Figure1 as client
use Rattle.client_responses.specs.Figure1.{enough, is_remainder, is_critical, may_try}
use Rattle.client.specs.Record.{store_in, view as shown, client_of}
use Rattle.client.specs.Calls.{client_after, result, begin_outcome, exit_outcome}
use Rattle.client.specs.Steps.{Answers}
use Rattle.client.specs.declared.Client.{Client}
use Rattle.client.specs.declared.Head.{Head}
use Rattle.client.specs.declared.Stepped.{Stepped}
use Rattle.client.specs.declared.Turned.{Turned}
use Rattle.client.proofs.StepLaws.{response-range}
use Rattle.words.specs.Records.{client_from, client_words, client_head_from, client_head}
use Rattle.system.specs.Numbered.{has, put, client_no}
use Rattle.system.specs.Places.{System, ClientPlace, no_client, client_at, in_epoch, down_from, worst}
use Rattle.system.specs.Events.{event, client_moves, response_took, check_took}
use Rattle.system.specs.Runs.{after}
use Rattle.system.proofs.PlaceLaws.{put-numbered}
use Rattle.system.specs.Transit.{replaced, gone}
use Rattle.system.specs.Limits.{system_servers}
use Rattle.sim_transit.specs.Slots.{messages_in}
use Rattle.sim_indexed.specs.Indexed.{slot_in}
use Rattle.sim_blocks.specs.Blocks.{client_record, client_place, client_block, named, holds_client_record}
use Rattle.sim_blocks.proofs.Facts.{ClientBlock, client-facts}
use Rattle.sim_blocks.proofs.ClientSteps.{begin_outcome_lem, exit_outcome_lem, client-after}
use Rattle.sim_layout.specs.Layout.{setting_of, length_of, transit_words, view, clients_from}
use Rattle.sim_layout.specs.Parts.{client_block_of, ClientIn}
use Rattle.sim_layout.proofs.PlaceLaws.{client-there}
use Rattle.sim_changes.specs.declared.ClientAct.{ClientAct}
use Rattle.sim_changes.specs.declared.ClientAct.TheVariants as act
use Rattle.sim_changes.specs.Happens.{happens, Leaves, moved_of}
use Rattle.sim_changes.specs.Changes.{Becomes, HasClient, HasSlot, Pends, with_clients, with_transit, number_at}
use Rattle.sim_changes.specs.Inner.{Sendable, has_room, with_client, sending, out_bytes, ClientAsks, client_outcome, client_step, client_rest, client_gone, client_downs, ClientStores, client_stored}
use Rattle.sim_changes.specs.Acts.{ClientMay, client_event}
use Rattle.sim_changes.proofs.Answers.{fallen-tries, fallen-exits, tries_twice, tries-spent, tries, exits-outside, exits}
use Rattle.sim_changes.proofs.Leaving.{leaves_refused, view_noted}
use Rattle.sim_changes.proofs.Parties.{client_in_lem, living-is}
use Rattle.sim_changes.proofs.SentLaws.{Sends, tries-sends, exits-sends, responds-sends, checked-sends}
use Rattle.sim_changes.proofs.Storing.{client-block, client-is, tries-stored, exits-stored, responds-stored, checked-stored}
use Rattle.sim_changes.proofs.Sending.{Call, call_refused, call_few, call_full, call_sendable, call_noted, steps_by, called, roomy, view-all, and_then}
use Rattle.sim_changes.proofs.Taking.{in_range_lem, answered, response-client, response-goes, told, check-client, check-goes, length-gone, needed, unmet}

-- a client's place stored twice
put-put : (l : List ClientPlace) (k : ℕ) (p q : ClientPlace) → put (put l k p) k q ≡ put l k q
put-put l zero p q = refl
put-put l (suc i) p q = set-set l i p q

pub still-client : {w w₁ : List ℕ} {k : ℕ} {u : System} → Becomes w w₁ u → HasClient w (client_no k) → HasClient w₁ (client_no k)
still-client B H = record { valid = B.again; first = H.first; last = rw B.setting H.last }

-- the record whose head and row were read
pub client_read : (h : Head) (row ws : List ℕ) → h ≡ client_head_from ws → row ≡ drop client_head ws → client_of h row ≡ client_from ws
client_read h row ws p q = λ i. client_of (p i) (q i)

-- client k, which is there
module _ (w : List ℕ) (k : ClientId) (H : HasClient w k) where
  abbrev its : Client
  its = client_from (client_record (client_block_of w k))

  abbrev state : client.State
  state = (client_at (view w) k).state

  pub client_there_in : has (view w).clients k.0 ≡ true
  client_there_in = client-there w k.0 ∙ rw (le-leb 1 k.0 H.first, le-leb k.0 (setting_of w).clients H.last)

  its-facts : ClientBlock (setting_of w).n (setting_of w).m (setting_of w).clients k.0 (client_block_of w k)
  its-facts = client-facts (setting_of w).n (setting_of w).m (setting_of w).clients k.0 (client_block_of w k) (client-block w k.0 H)

  pub client-held : holds_client_record (client_record (client_block_of w k)) ≡ true
  client-held = its-facts.held

  its-state : shown (client_from (client_record (client_block_of w k))) ≡ (client_at (view w) k).state
  unfolding client_place
  its-state = rw (client-is w k.0 H)

  place-state : (client_place (client_block_of w k)).state ≡ (client_at (view w) k).state
  place-state = ap (λ (c : ClientPlace). c.state) (sym (client-is w k.0 H))

  pub its-after : (p : Step client.State) → client_after its (stepped p) ≡ store_in system_servers (setting_of w).n (setting_of w).m k p.state
  its-after p = client-after (setting_of w).n (setting_of w).m (setting_of w).clients k.0 (client_block_of w k) (client-block w k.0 H) p

  -- after a store of client k's place
  at-put : (u : System) (p : ClientPlace) → has u.clients k.0 ≡ true → client_at (with_client u k p) k ≡ p
  at-put u p h = (put-numbered no_client u.clients k.0 p h).here

  now-at : (w₁ : List ℕ) (p : ClientPlace) → Becomes w w₁ (with_client (view w) k p) → client_at (view w₁) k ≡ p
  now-at w₁ p B = ap (λ (u : System). client_at u k) B.system ∙ at-put (view w) p client_there_in

  -- the outcomes of a try and an exit that are refused
  begin_elsewhere : is_remainder state.section ≡ false → begin_outcome its ≡ refused WrongSection
  unfolding begin_outcome
  begin_elsewhere h = rw (its-facts.valid, its-state, h)

  begin_spent : is_remainder state.section ≡ true → may_try state ≡ false → begin_outcome its ≡ refused TimestampsSpent
  unfolding begin_outcome
  begin_spent h t = rw (its-facts.valid, its-state, h, t)

  exit_outside : is_critical state.section ≡ false → exit_outcome its ≡ refused WrongSection
  unfolding exit_outcome
  exit_outside h = rw (its-facts.valid, its-state, h)

-- what a client's act comes to: its call is refused as its event is, or makes its event's step
data Verdict (w : List ℕ) (k : ClientId) (a : ClientAct) : Type 0 where
  denied : (x : Refusal) → client_outcome a (client_from (client_record (client_block_of w k))) ≡ refused x
      → event (setting_of w).n (enough (setting_of w).m) (view w) (client_event w k a) ≡ refused x → Verdict w k a
  allowed : client_outcome a (client_from (client_record (client_block_of w k))) ≡ stepped (client_step w k a)
      → event (setting_of w).n (enough (setting_of w).m) (view w) (client_event w k a)
      ≡ stepped (client_moves (view w) k (client_rest w a) (client_downs w k a) (client_step w k a))
      → Sends (setting_of w).n (setting_of w).clients (client_step w k a).sent → Verdict w k a

module _ (w : List ℕ) (k : ClientId) where
  abbrev n : ℕ
  n = (setting_of w).n

  abbrev m : ℕ
  m = (setting_of w).m

  abbrev clients : ℕ
  clients = (setting_of w).clients

  abbrev block : List ℕ
  block = client_block_of w k

  pub act-client : (a : ClientAct) → ClientMay w k a → HasClient w k
  act-client act.Try H = H
  act-client act.Exit H = H
  act-client (act.Response i j o) P = response-client w i k j o P
  act-client (act.Check i j t) P = check-client w i k j t P

  -- a client that has fallen
  act-fallen : (a : ClientAct) → ClientMay w k a → (client_at (view w) k).living ≡ false → event n (enough m) (view w) (client_event w k a) ≡ refused PartyDown
  act-fallen act.Try H h = fallen-tries n (enough m) (view w) k (client_there_in w k H) h
  act-fallen act.Exit H h = fallen-exits n (enough m) (view w) k (client_there_in w k H) h
  act-fallen (act.Response i j o) P h =
      response-goes w i k j o P ∙ unmet (client_at (view w) k).living (response_took n (enough m) (view w) (number_at w i).0 k j o) h
  act-fallen (act.Check i j t) P h = check-goes w i k j t P ∙ unmet (client_at (view w) k).living (check_took (view w) (number_at w i).0 k j t) h

  module _ (a : ClientAct) (M : ClientMay w k a) (b : Bool) (f : b ≡ (client_place (client_block_of w k)).living) where
    living-here : b ≡ (client_at (view w) k).living
    living-here = sym (living-is w k.0 (act-client a M) b f)

    pub client-fallen : b ≡ false → Leaves w (client_event w k a) w × (Err PartyDown ≡ moved_of (happens w (client_event w k a)))
    client-fallen u = leaves_refused w (client_event w k a) PartyDown (act-client a M).valid (act-fallen a M (fails b _ living-here u))

    pub client-lives : b ≡ true → (client_at (view w) k).living ≡ true
    client-lives u = holds b _ living-here u

  -- what the call asks
  pub act-asks : (a : ClientAct) → ClientMay w k a → (s : Client) → s ≡ client_from (client_record (client_block_of w k)) → ClientAsks a s
  act-asks act.Try H s q = rw q (its-facts w k H).valid
  act-asks act.Exit H s q = rw q (its-facts w k H).valid
  act-asks (act.Response i j o) P s q =
      let B = its-facts w k (response-client w i k j o P) in
      let N = answered w i k j o P in
      rw q (B.valid, N.some_server, omega (arith, N.server, B.servers), (response-range max_servers k j o (in_range_lem w i (Response k j o) P)).1)
  act-asks (act.Check i j t) P s q = rw q (its-facts w k (check-client w i k j t P)).valid

  -- how many messages are gone
  rest-long : (a : ClientAct) → ClientMay w k a → length (client_rest w a) ≡ length_of w - client_gone a
  rest-long act.Try H = view-all w
  rest-long act.Exit H = view-all w
  rest-long (act.Response i j o) P = length-gone w i P.slot
  rest-long (act.Check i j t) P = length-gone w i P.slot

  pub gone-few : (a : ClientAct) → ClientMay w k a → client_gone a ≤ length_of w
  gone-few act.Try H = zero-le
  gone-few act.Exit H = zero-le
  gone-few (act.Response i j o) P = omega (arith, P.slot.used)
  gone-few (act.Check i j t) P = omega (arith, P.slot.used)

  -- the verdict on each act of a client that lives
  module _ (lives : (client_at (view w) k).living ≡ true) where
    try_allowed : (H : HasClient w k) → is_remainder (client_at (view w) k).state.section ≡ true → may_try (client_at (view w) k).state ≡ true
        → Verdict w k act.Try
    try_allowed H h t =
        let ok = client-block w k.0 H in
        let e = place-state w k H in
        let u = subst (λ (c : client.State). may_try c ≡ true) (sym e) t in
        allowed
        (subst (λ (c : client.State). begin_outcome (its w k H) ≡ stepped (client.tries n k c)) e
        (begin_outcome_lem n m clients k.0 block ok (subst (λ (c : client.State). is_remainder c.section ≡ true) (sym e) h) u))
        (tries n (enough m) (view w) k (client_there_in w k H) lives h t)
        (subst (λ (c : client.State). Sends n clients (client.tries n k c).sent) e (tries-sends n m clients k.0 block ok H.first H.last u))

    try_verdict : HasClient w k → Verdict w k act.Try
    try_verdict H =
        let there = client_there_in w k H in
        ⊎_elim
        (λ (h : is_remainder (client_at (view w) k).state.section ≡ true).
        ⊎_elim
        (λ (t : may_try (client_at (view w) k).state ≡ true). try_allowed H h t)
        (λ (t : may_try (client_at (view w) k).state ≡ false).
        denied TimestampsSpent (begin_spent w k H h t) (tries-spent n (enough m) (view w) k there lives h t))
        (decided (may_try (client_at (view w) k).state)))
        (λ (h : is_remainder (client_at (view w) k).state.section ≡ false).
        denied WrongSection (begin_elsewhere w k H h) (tries_twice n (enough m) (view w) k there lives h))
        (decided (is_remainder (client_at (view w) k).state.section))

    exit_allowed : (H : HasClient w k) → is_critical (client_at (view w) k).state.section ≡ true → Verdict w k act.Exit
    exit_allowed H h =
        let ok = client-block w k.0 H in
        let e = place-state w k H in
        let u = subst (λ (c : client.State). is_critical c.section ≡ true) (sym e) h in
        allowed
        (subst (λ (c : client.State). exit_outcome (its w k H) ≡ stepped (client.exits n k c)) e (exit_outcome_lem n m clients k.0 block ok u))
        (exits n (enough m) (view w) k (client_there_in w k H) lives h)
        (subst (λ (c : client.State). Sends n clients (client.exits n k c).sent) e (exits-sends n m clients k.0 block ok H.first H.last u))

    exit_verdict : HasClient w k → Verdict w k act.Exit
    exit_verdict H =
        ⊎_elim (λ (h : is_critical (client_at (view w) k).state.section ≡ true). exit_allowed H h)
        (λ (h : is_critical (client_at (view w) k).state.section ≡ false).
        denied WrongSection (exit_outside w k H h) (exits-outside n (enough m) (view w) k (client_there_in w k H) lives h))
        (decided (is_critical (client_at (view w) k).state.section))

    heard_as : (H : HasClient w k) (j : ServerId) (o : Option Request)
        → client.responds (enough (its w k H).head.m) (its w k H).head.n (its w k H).head.id j o (shown (its w k H))
        ≡ client.responds (enough m) n k j o (client_at (view w) k).state
    heard_as H j o = let B = its-facts w k H in rw (its-state w k H, B.threshold, B.servers, B.number)

    checked_as : (H : HasClient w k) (j : ServerId) (t : Timestamp)
        → client.checked (its w k H).head.id j t (shown (its w k H)) ≡ client.checked k j t (client_at (view w) k).state
    checked_as H j t = rw (its-state w k H, (its-facts w k H).number)

    verdict : (a : ClientAct) → ClientMay w k a → Verdict w k a
    verdict act.Try H = try_verdict H
    verdict act.Exit H = exit_verdict H
    verdict (act.Response i j o) P =
        let H = response-client w i k j o P in
        allowed (ap stepped (heard_as H j o))
        (response-goes w i k j o P ∙ needed (client_at (view w) k).living (response_took n (enough m) (view w) (number_at w i).0 k j o) lives)
        (subst (λ (c : client.State). Sends n clients (client.responds (enough m) n k j o c).sent) (place-state w k H)
        (responds-sends n m clients k.0 block (client-block w k.0 H) H.first H.last j o))
    verdict (act.Check i j t) P =
        let H = check-client w i k j t P in
        let N = told w i k j t P in
        allowed (ap stepped (checked_as H j t))
        (check-goes w i k j t P ∙ needed (client_at (view w) k).living (check_took (view w) (number_at w i).0 k j t) lives)
        (subst (λ (c : client.State). Sends n clients (client.checked k j t c).sent) (place-state w k H)
        (checked-sends n m clients k.0 block (client-block w k.0 H) H.first H.last j t (in_range_lem w i (Check k j t) P) N.some_server N.server))

-- what a call on head and row hands back, as a record by value
turned_record : (h : Head) (row : List ℕ) (x : Outcome client.State) (o : List ℕ) (t : Turned) (left l : List ℕ) → Answers h row x o t left l
    → ◌≡◌ {A = Stepped} (record { client = client_of t.head left; answer = t.answer }) (result (client_of h row) (with_room (length o) x))
turned_record h row x o t left l A = let p = A.0 in let q = A.1 in λ i. record { client = client_of (p i).head (q i); answer = (p i).answer }

-- what a refused call answers
answer-refused : {A : Type 0} (room : ℕ) (o : Outcome A) (y x : Refusal) → o ≡ refused y → (a : Result Sent Refusal) → a ≡ answer_of (with_room room o)
    → a ≡ Err x → x ≡ y
unfolding with_room
answer-refused room o y x e a f g =
    let z : a ≡ Err y = rw e at f in
    cc

answer_never : {A : Type 0} {P : Type 0} (room : ℕ) (o : Outcome A) (y : Refusal) → o ≡ refused y → (a : Result Sent Refusal) → a ≡ answer_of (with_room room o)
    → (count size : ℕ) → a ≡ Ok (record { messages = count; bytes = size }) → P
unfolding with_room
answer_never room o y e a f count size g =
    let z : a ≡ Err y = rw e at f in
    let q : ◌≡◌ {A = ℕ} 0 1 = cc in
    absurd (omega arith)

never_stepped : {A : Type 0} {P : Type 0} (o : Outcome A) (x : Refusal) (p : Step A) → o ≡ refused x → o ≡ stepped p → P
never_stepped o x p e f =
    let q : ◌≡◌ {A = ℕ} 0 1 = cc in
    absurd (omega arith)

-- Client k's call was accepted: its answer and bytes are those of the event's step, and its record is the step's.
pub record ClientCalled (w : List ℕ) (k : ClientId) (a : ClientAct) (r : Turned) (row bytes : List ℕ) : Type 0 where
  pub call : Call w (client_event w k a) (client_gone a) (client_step w k a).sent
      (client_moves (view w) k (client_rest w a) (client_downs w k a) (client_step w k a)) r.answer bytes
  pub stores : ClientStores w k a (client_of r.head row)
  pub all : length (client_rest w a) ≡ length_of w - client_gone a

-- the call of client k, which lives, on its record, with an event's buffer
module _ (w : List ℕ) (k : ClientId) (a : ClientAct) (M : ClientMay w k a) (lives : (client_at (view w) k).living ≡ true)
    (h : Head) (row : List ℕ) (q : client_of h row ≡ client_from (client_record (client_block_of w k))) (r : Turned) (row' bytes' : List ℕ)
    (A : Answers h row (client_outcome a (client_of h row)) (replicate out_bytes 0) r row' bytes') where
  abbrev mine : Client
  mine = client_from (client_record (client_block_of w k))

  -- what a call of this outcome hands back, in an event's buffer
  abbrev roomed : Client → Outcome client.State
  roomed s = with_room (length (replicate {A = ℕ} out_bytes 0)) (client_outcome a s)

  hands : ◌≡◌ {A = Stepped} (record { client = client_of r.head row'; answer = r.answer }) (result mine (roomed mine))
  hands =
      subst (λ (s : Client). ◌≡◌ {A = Stepped} (record { client = client_of r.head row'; answer = r.answer }) (result s (roomed s))) q
      (turned_record h row (client_outcome a (client_of h row)) (replicate out_bytes 0) r row' bytes' A)

  writes : bytes' ≡ sent_into (replicate out_bytes 0) (roomed mine)
  writes = subst (λ (s : Client). bytes' ≡ sent_into (replicate out_bytes 0) (roomed s)) q A.2

  answers : r.answer ≡ answer_of (roomed mine)
  answers = ap (λ (x : Stepped). x.answer) hands

  accepted_by_lem : client_outcome a mine ≡ stepped (client_step w k a)
      → event (setting_of w).n (enough (setting_of w).m) (view w) (client_event w k a)
      ≡ stepped (client_moves (view w) k (client_rest w a) (client_downs w k a) (client_step w k a))
      → Sends (setting_of w).n (setting_of w).clients (client_step w k a).sent → ClientCalled w k a r row' bytes'
  accepted_by_lem out is S =
      let s = client_moves (view w) k (client_rest w a) (client_downs w k a) (client_step w k a) in
      let T = steps_by w (client_event w k a) (client_gone a) (client_rest w a) (client_step w k a).sent s is (rest-long w k a M) refl refl refl S in
      record {
        call = called w (client_event w k a) (client_gone a) (client_outcome a mine) (client_step w k a) s (act-client w k a M).valid T out
            r.answer (replicate out_bytes 0) bytes' refl answers writes;
        stores = record {
          may = M;
          lives = lives;
          accepted = out;
          left = ap (λ (x : Stepped). x.client) hands
              ∙ ap (client_after mine)
              (roomy (setting_of w).n (setting_of w).clients (client_outcome a mine) (client_step w k a) out S (replicate out_bytes 0) refl);
        };
        all = rest-long w k a M;
      }

  refused_by : Verdict w k a → (x : Refusal) → r.answer ≡ Err x
      → Leaves w (client_event w k a) w × (Err x ≡ moved_of (happens w (client_event w k a)))
  refused_by (denied y out is) x f =
      let e : x ≡ y = answer-refused _ (client_outcome a mine) y x out r.answer answers f in
      rw e (leaves_refused w (client_event w k a) y (act-client w k a M).valid is)
  refused_by (allowed out is S) x f = call_refused (accepted_by_lem out is S).call x f

  pub client-refused : (x : Refusal) → r.answer ≡ Err x
      → Leaves w (client_event w k a) w × (Err x ≡ moved_of (happens w (client_event w k a)))
  client-refused x f = refused_by (verdict w k lives a M) x f

  called_by : Verdict w k a → (count size : ℕ) → r.answer ≡ Ok (record { messages = count; bytes = size }) → ClientCalled w k a r row' bytes'
  called_by (denied y out is) count size f = answer_never _ (client_outcome a mine) y out r.answer answers count size f
  called_by (allowed out is S) count size f = accepted_by_lem out is S

  pub client-called : (count size : ℕ) → r.answer ≡ Ok (record { messages = count; bytes = size }) → ClientCalled w k a r row' bytes'
  client-called count size f = called_by (verdict w k lives a M) count size f

-- Its answer counts so many messages, and b says whether there is room for them.
pub record ClientTested (w : List ℕ) (k : ClientId) (a : ClientAct) (r : Turned) (row bytes : List ℕ) (count : ℕ) (b : Bool) : Type 0 where
  pub called : ClientCalled w k a r row bytes
  pub size : ℕ
  pub answered : r.answer ≡ Ok (record { messages = count; bytes = size })
  pub room : b ≡ has_room w (client_gone a) count

pub client-few : {w : List ℕ} {k : ClientId} {a : ClientAct} {r : Turned} {row bytes : List ℕ} → ClientCalled w k a r row bytes
    → (count size : ℕ) → r.answer ≡ Ok (record { messages = count; bytes = size }) → count ≤ system_servers
client-few C count size f = call_few C.call count size f

-- the laws of each way out: words w₁ have the client's record, and words w₂ its messages
module _ {w : List ℕ} {k : ClientId} {a : ClientAct} {r : Turned} {row bytes : List ℕ} {count : ℕ} {b : Bool}
    (T : ClientTested w k a r row bytes count b) where
  pub client-full : b ≡ false → Leaves w (client_event w k a) w × (Err SystemFull ≡ moved_of (happens w (client_event w k a)))
  client-full t = call_full T.called.call count T.size T.answered b T.room t

  module _ (t : b ≡ true) (w₁ : List ℕ) (B : Becomes w w₁ (client_stored w k a)) where
    pub client_sendable : Sendable w₁ count bytes
    client_sendable = call_sendable T.called.call count T.size T.answered b T.room t w₁ _ B T.called.all refl

    pub client-sent : (w₂ : List ℕ) → Becomes w₁ w₂ (sending (view w₁) (messages_in count bytes))
        → Leaves w (client_event w k a) w₂ × (Ok count ≡ moved_of (happens w (client_event w k a)))
    unfolding after
    client-sent w₂ D = call_noted T.called.call count T.size T.answered b T.room t w₁ w₂ _ B D refl

-- The record is stored, with what the act changes beside it. Valid words have the most noted.
noted : {w w' : List ℕ} (u : System) → Becomes w w' u → Becomes w w' (with_clients u u.clients)
noted {w} {w'} u B =
    let fits : worst u.clients ≤ u.most = rw B.system at (view_noted w' B.again) in
    let e : u.most ≡ max u.most (worst u.clients) = omega (arith, fits) in
    let z : u ≡ with_clients u u.clients = λ i. record { clients = u.clients; servers = u.servers; transit = u.transit; sent = u.sent; most = e i } in
    record { system = B.system ∙ z; setting = B.setting; again = B.again }

named-owner : (number : ℕ) (o : Option Request) → owner_client o ≤ number → named number o ≡ true
named-owner number None h = refl
named-owner number (Some r) h = le-leb r.client.0 number h

module _ (w : List ℕ) (k : ClientId) (c : Client) where
  -- client k's block with its record
  abbrev puts : List ℕ → List ℕ → Type 0
  puts w₁ w₂ = w₂ ≡ sets w₁ (clients_from + client_block * (k.0 - 1)) (sets (client_block_of w₁ k) 1 (client_words c))

  stored_as : (a : ClientAct) (S : ClientStores w k a c) → c ≡ store_in system_servers (setting_of w).n (setting_of w).m k (client_step w k a).state
  stored_as a S = S.left ∙ its-after w k (act-client w k a S.may) (client_step w k a)

  -- a try: its epoch begins once the record is stored, in w₁
  module _ (S : ClientStores w k act.Try c) where
    abbrev trier : HasClient w k
    trier = S.may

    remainder : is_remainder (client_at (view w) k).state.section ≡ true
    remainder =
        ⊎_elim (λ (h : is_remainder (client_at (view w) k).state.section ≡ true). h)
        (λ (h : is_remainder (client_at (view w) k).state.section ≡ false). never_stepped _ WrongSection _ (begin_elsewhere w k trier h) S.accepted)
        (decided (is_remainder (client_at (view w) k).state.section))

    unspent : may_try (client_at (view w) k).state ≡ true
    unspent =
        ⊎_elim (λ (t : may_try (client_at (view w) k).state ≡ true). t)
        (λ (t : may_try (client_at (view w) k).state ≡ false). never_stepped _ TimestampsSpent _ (begin_spent w k trier remainder t) S.accepted)
        (decided (may_try (client_at (view w) k).state))

    abbrev trying : ClientPlace
    trying = record { living = (client_at (view w) k).living; state = (client_step w k act.Try).state; downs = (client_at (view w) k).downs }

    try_stores : (w₁ : List ℕ) → puts w w₁ → Becomes w w₁ (with_client (view w) k trying)
    try_stores w₁ z = tries-stored w k.0 trier c w₁ z remainder unspent (stored_as act.Try S)

  -- an act in which a part of the system changes, in w₁, before the record is stored, in w₂
  exit_stores : ClientStores w k act.Exit c → (w₁ : List ℕ)
      → Becomes w w₁ (with_client (view w) k (record { living = (client_at (view w) k).living; state = (client_at (view w) k).state; downs = [] }))
      → (w₂ : List ℕ) → puts w₁ w₂ → Becomes w w₂ (client_stored w k act.Exit)
  exit_stores S w₁ B w₂ z =
      let H = S.may in
      let p : ClientPlace = record { living = (client_at (view w) k).living; state = (client_at (view w) k).state; downs = [] } in
      let g : ClientPlace → ClientPlace = λ q. record { living = q.living; state = (client.exits (setting_of w).n k q.state).state; downs = q.downs } in
      let here = now-at w k H w₁ p B in
      let D = exits-stored w₁ k.0 (still-client B H) c w₂ z (rw here) (rw (B.setting, here) (stored_as act.Exit S)) in
      let E = and_then (λ u. with_client u k (g (client_at u k))) B (rw B.setting at D) in
      noted _ (rw (at-put w k H (view w) p (client_there_in w k H), put-put, S.lives) at E)

  response_stores : (i : ℕ) (j : ServerId) (o : Option Request) → ClientStores w k (act.Response i j o) c → (w₁ : List ℕ)
      → Becomes w w₁ (with_transit (view w) (client_rest w (act.Response i j o)))
      → (w₂ : List ℕ) → puts w₁ w₂ → Becomes w w₂ (client_stored w k (act.Response i j o))
  response_stores i j o S w₁ B w₂ z =
      let P : Pends w i (Response k j o) = S.may in
      let step : System → client.State = λ u. (client.responds (enough (setting_of w).m) (setting_of w).n k j o (client_at u k).state).state in
      let same : step (view w) ≡ step (view w₁) = ap step (sym B.system) in
      let D = responds-stored w₁ k.0 (still-client B (response-client w i k j o P)) c w₂ z j o
      (response-range max_servers k j o (in_range_lem w i (Response k j o) P)).1
      (rw B.setting (named-owner (setting_of w).clients o (answered w i k j o P).owner))
      (rw (B.setting, ← same) (stored_as (act.Response i j o) S)) in
      let E = and_then (λ u. with_client u k (record { living = (client_at u k).living; state = step u; downs = (client_at u k).downs })) B (rw B.setting at D) in
      noted _ (rw S.lives at E)

  check_stores : (i : ℕ) (j : ServerId) (t : Timestamp) → ClientStores w k (act.Check i j t) c → (w₁ : List ℕ)
      → Becomes w w₁ (with_transit (view w) (client_rest w (act.Check i j t)))
      → (w₂ : List ℕ) → puts w₁ w₂ → Becomes w w₂ (client_stored w k (act.Check i j t))
  check_stores i j t S w₁ B w₂ z =
      let P : Pends w i (Check k j t) = S.may in
      let step : System → client.State = λ u. (client.checked k j t (client_at u k).state).state in
      let same : step (view w) ≡ step (view w₁) = ap step (sym B.system) in
      let D = checked-stored w₁ k.0 (still-client B (check-client w i k j t P)) c w₂ z j t (rw (B.setting, ← same) (stored_as (act.Check i j t) S)) in
      let E = and_then (λ u. with_client u k (record { living = (client_at u k).living; state = step u; downs = (client_at u k).downs })) B D in
      noted _ (rw S.lives at E)

-- the same where the act is known by an equation, as in the arms of a match
module _ {w : List ℕ} {k : ClientId} {c : Client} {a : ClientAct} (S : ClientStores w k a c) where
  pub storing_client : HasClient w k
  storing_client = act-client w k a S.may

  pub storing_in : ClientIn w k
  storing_in = client_in_lem w k.0 storing_client

  pub storing_still : {w₁ : List ℕ} {u : System} → Becomes w w₁ u → ClientIn w₁ k
  storing_still {w₁} B = client_in_lem w₁ k.0 (still-client B storing_client)

  module _ (e : a ≡ act.Try) {w₁ : List ℕ} (z : w₁ ≡ sets w (clients_from + client_block * (k.0 - 1)) (sets (client_block_of w k) 1 (client_words c))) where
    pub epoch_begins : HasClient w₁ k × (in_epoch (client_at (view w₁) k) ≡ true)
    unfolding client.tries
    epoch_begins =
        let T = rw e at S in
        let B = try_stores w k c T w₁ z in
        (still-client B T.may, rw (now-at w k T.may w₁ (trying w k c T) B, S.lives))

    pub try_stored : {w₂ : List ℕ}
        → Becomes w₁ w₂ (with_clients (view w₁) (put (view w₁).clients k.0 (record {
          living = (client_at (view w₁) k).living;
          state = (client_at (view w₁) k).state;
          downs = down_from 1 (view w₁).servers;
        })))
        → Becomes w w₂ (client_stored w k a)
    try_stored {w₂} D =
        let T = rw e at S in
        let f : System → System = λ u. with_clients u
        (put u.clients k.0 (record { living = (client_at u k).living; state = (client_at u k).state; downs = down_from 1 u.servers })) in
        let E = and_then f (try_stores w k c T w₁ z) D in
        rw e (rw (at-put w k T.may (view w) (trying w k c T) (client_there_in w k T.may), put-put, T.lives) at E)

  module _ {w₁ w₂ : List ℕ} (z : w₂ ≡ sets w₁ (clients_from + client_block * (k.0 - 1)) (sets (client_block_of w₁ k) 1 (client_words c))) where
    pub exit_stored : a ≡ act.Exit
        → Becomes w w₁ (with_client (view w) k (record { living = (client_at (view w) k).living; state = (client_at (view w) k).state; downs = [] }))
        → Becomes w w₂ (client_stored w k a)
    exit_stored e B = rw e (exit_stores w k c (rw e at S) w₁ B w₂ z)

    module _ (i : ℕ) (B : Becomes w w₁ (with_transit (view w) (replaced (slot_in (transit_words w) i).number gone (view w).transit))) where
      pub response-stored : (j : ServerId) (o : Option Request) → a ≡ act.Response i j o → Becomes w w₂ (client_stored w k a)
      response-stored j o e = rw e (response_stores w k c i j o (rw e at S) w₁ B w₂ z)

      pub check-stored : (j : ServerId) (t : Timestamp) → a ≡ act.Check i j t → Becomes w w₂ (client_stored w k a)
      check-stored j t e = rw e (check_stores w k c i j t (rw e at S) w₁ B w₂ z)

  pub response-slot : (i : ℕ) (j : ServerId) (o : Option Request) → a ≡ act.Response i j o → HasSlot w i
  response-slot i j o e = let T = rw e at S in T.may.slot

  pub check-slot : (i : ℕ) (j : ServerId) (t : Timestamp) → a ≡ act.Check i j t → HasSlot w i
  check-slot i j t e = let T = rw e at S in T.may.slot
