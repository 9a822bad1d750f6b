-- The four steps of a client, on a valid block: what its call does, and what the block is with the step's record.
use Prim.Native.Nat.{ℕ, zero, suc, ◌≤◌}
use mathlib.Core.Path.{◌≡◌, refl, sym, ◌∙◌}
use mathlib.Core.Bool.{Bool, true, false}
use mathlib.Core.List.{List, map}
use lib.ListN.{replicate, length}
use lib.Seq.{sets}
use borrow.Author.Tests.{leb-true, le-leb, eq-eqb}
use Rattle.std.specs.Prelude.{if◌then◌else◌, None, Option}
use Rattle.ids.specs.Lists.{every}
use Rattle.ids.specs.Limits.{valid_owner}
use Rattle.ids.specs.Requests.{is_request}
use Rattle.ids.specs.declared.ClientId.{ClientId}
use Rattle.ids.specs.declared.ServerId.{ServerId}
use Rattle.ids.specs.declared.Timestamp.{Timestamp}
use Rattle.ids.specs.declared.Request.{Request}
use Rattle.wire.specs.Step.{Step, stepped}
use Rattle.wire.specs.Format as format
use Rattle.wire.specs.declared.Message.TheVariants.{Response, Check}
use Rattle.client.specs.declared.Client.{Client}
use Rattle.client_responses.specs.declared.Section.{Section}
use Rattle.client_responses.specs.declared.Section.TheVariants.{Remainder, Trying, Critical}
use Rattle.client_responses.specs.Figure1.{State, fresh, Quorum, filled, enough, tries, exits, heard, judge, responds, checked, is_remainder, is_critical, last_try, may_try, latest, saw, told, upon_response}
use Rattle.client.specs.Record as client
use Rattle.client.specs.Calls.{client_after, begin_outcome, exit_outcome, message_outcome, for_client, message_outcome_up_to}
use Rattle.client.proofs.KeepsValid.{InRange, remainder_fits, Fits, tries-fits, exits-fits, responds-fits, saw-fits, checked-state, heard-every, after-stored}
use Rattle.words.specs.Records.{client_from, client_words}
use Rattle.words.proofs.RecordsLaws.{client-row}
use Rattle.system.specs.Places.{ClientPlace}
use Rattle.system.specs.Limits.{system_servers}
use Rattle.sim_blocks.specs.Blocks.{client_record, flags, client_place, zero_word, named, valid_client_block, response_words}
use Rattle.sim_blocks.proofs.Facts.{ClientBlock, client-facts, client-fits}
use Rattle.sim_blocks.proofs.ClientLaws.{Frame, stored_frame, ClientIs, remainder_clear, stored-client}
use Rattle.system.specs.Numbered.{client_no}

-- no response names nobody
named_none : (clients n : ℕ) → every (named clients) (replicate n None) ≡ true
named_none clients zero = refl
named_none clients (suc n) = named_none clients n

-- a RESPONSE that names one of the clients leaves responses that do, and a section that is the remainder only if it was
module _ (wins : Quorum) (n clients : ℕ) (k : ClientId) (j : ServerId) (o : Option Request) (v : named clients o ≡ true) where
  judged : (a b : Bool) (x y z : Step State) → every (named clients) x.state.responses ≡ true
      → every (named clients) y.state.responses ≡ true → every (named clients) z.state.responses ≡ true
      → every (named clients) (if a then (if b then x else y) else z).state.responses ≡ true
  judged true true x y z f g h = f
  judged true false x y z f g h = g
  judged false b x y z f g h = h

  trying : (c : State) (l : List (Option Request)) → every (named clients) l ≡ true → every (named clients) (judge wins n k c l).state.responses ≡ true
  unfolding judge
  trying c l h =
      judged (wins (map filled l)) (wins (map (is_request (record { client = k; timestamp = c.timestamp })) l)) _ _ _ h (named_none clients n) h

  abbrev with : Section → Timestamp → Timestamp → List (Option Request) → State
  with a t seen l = record { section = a; timestamp = t; seen = seen; responses = l }

  by_section : (a : Section) (t seen : Timestamp) (l : List (Option Request)) → every (named clients) l ≡ true
      → every (named clients) (upon_response wins n k j o (with a t seen l)).state.responses ≡ true
  unfolding upon_response
  by_section Remainder t seen l h = h
  by_section Critical t seen l h = h
  by_section Trying t seen l h =
      let r : Request = record { client = k; timestamp = t } in
      trying (with Trying t seen l) (heard r l j o) (heard-every r l j o (named clients) h (λ e. v))

  pub responds-names : (s : State) → every (named clients) s.responses ≡ true → every (named clients) (responds wins n k j o s).state.responses ≡ true
  responds-names s h = by_section s.section s.timestamp (saw (told o) s).seen s.responses h

  never_left : (a b : Bool) (x y z : Step State) → is_remainder x.state.section ≡ false → is_remainder y.state.section ≡ false
      → is_remainder z.state.section ≡ false
      → is_remainder (if a then (if b then x else y) else z).state.section ≡ false
  never_left true true x y z f g h = f
  never_left true false x y z f g h = g
  never_left false b x y z f g h = h

  left_by : (a : Section) (t seen : Timestamp) (l : List (Option Request))
      → is_remainder (upon_response wins n k j o (with a t seen l)).state.section ≡ is_remainder a
  unfolding upon_response judge
  left_by Remainder t seen l = refl
  left_by Critical t seen l = refl
  left_by Trying t seen l =
      let r : Request = record { client = k; timestamp = t } in
      never_left (wins (map filled (heard r l j o))) (wins (map (is_request r) (heard r l j o))) _ _ _ refl refl refl

  pub responds-section : (s : State) → is_remainder (responds wins n k j o s).state.section ≡ is_remainder s.section
  responds-section s = left_by s.section s.timestamp (saw (told o) s).seen s.responses

-- block b with the record of state s, and the place that it is
abbrev pub written : ℕ → ℕ → ℕ → List ℕ → State → List ℕ
written n m k b s = sets b 1 (client_words (client.store_in system_servers n m (record { 0 = k }) s))

abbrev pub placed : List ℕ → State → ClientPlace
placed b s = record { living = (client_place b).living; state = s; downs = (client_place b).downs }

module _ (n m clients k : ℕ) (b : List ℕ) (ok : valid_client_block n m clients (client_no k) b ≡ true) where
  abbrev me : ClientId
  me = record { 0 = k }

  abbrev B : ClientBlock n m clients k b
  B = client-facts n m clients k b ok

  abbrev its : Client
  its = client_from (client_record b)

  abbrev at : ClientPlace
  at = client_place b

  fits : Fits n m me at.state
  fits = client-fits n m clients k b B

  shows : client.view its ≡ at.state
  unfolding client_place
  shows = refl

  row-long : length its.row ≡ response_words
  row-long = client-row response_words (client_record b) B.held

  sections : its.head.section ≡ at.state.section
  unfolding client_place client.view
  sections = refl

  times : its.head.timestamp ≡ at.state.timestamp
  unfolding client_place client.view
  times = refl

  -- what the calls do
  pub begin_outcome_lem : is_remainder (client_place b).state.section ≡ true → may_try (client_place b).state ≡ true
      → begin_outcome (client_from (client_record b)) ≡ stepped (tries n (record { 0 = k }) (client_place b).state)
  unfolding begin_outcome
  begin_outcome_lem h g =
      rw (B.valid, shows, h, g, B.servers, B.number)

  pub exit_outcome_lem : is_critical (client_place b).state.section ≡ true
      → exit_outcome (client_from (client_record b)) ≡ stepped (exits n (record { 0 = k }) (client_place b).state)
  unfolding exit_outcome
  exit_outcome_lem h = rw (B.valid, shows, h, B.servers, B.number)

  for_me : (j : ServerId) → j.0 ≤ n → for_client its.head (record { 0 = k }) j ≡ true
  for_me j h = rw (B.number, B.servers, eq-eqb k k refl, le-leb j.0 n h)

  pub response-outcome : (j : ServerId) (o : Option Request) → format.valid (Response (record { 0 = k }) j o) ≡ true → j.0 ≤ n
      → message_outcome (client_from (client_record b)) (Response (record { 0 = k }) j o) ≡ stepped
      (responds (enough m) n (record { 0 = k }) j o (client_place b).state)
  unfolding message_outcome_up_to
  response-outcome j o w h = rw (B.valid, w, for_me j h, shows, B.servers, B.threshold)

  pub check-outcome : (j : ServerId) (t : Timestamp) → format.valid (Check (record { 0 = k }) j t) ≡ true → j.0 ≤ n
      → message_outcome (client_from (client_record b)) (Check (record { 0 = k }) j t) ≡ stepped (checked (record { 0 = k }) j t (client_place b).state)
  unfolding message_outcome_up_to
  check-outcome j t w h = rw (B.valid, w, for_me j h, shows)

  -- the record that an accepted call gives back
  pub client-after : (p : Step State) → client_after (client_from (client_record b)) (stepped p) ≡ client.store_in system_servers n m (record { 0 = k }) p.state
  client-after p = rw (← B.servers, ← B.threshold, ← B.number) (after-stored system_servers its p row-long)

  -- what they leave
  pub tries-block : is_remainder (client_place b).state.section ≡ true → may_try (client_place b).state ≡ true
      → ClientIs n m clients k (written n m k b (tries n (record { 0 = k }) (client_place b).state).state)
      (placed b (tries n (record { 0 = k }) (client_place b).state).state)
  unfolding tries
  tries-block h g =
      stored-client n m clients k b ok (tries n me at.state).state
      (tries-fits n m me at.state fits.ranges (leb-true (latest at.state).0 last_try g)) (named_none clients n)
      (λ e. remainder_clear n m clients k b ok h)

  -- an exit ends the epoch: the flags are cleared before its record is written
  pub exits-block : every zero_word (flags b) ≡ true → ClientIs n m clients k
      (written n m k b (exits n (record { 0 = k }) (client_place b).state).state)
      (placed b (exits n (record { 0 = k }) (client_place b).state).state)
  unfolding exits
  exits-block z =
      stored-client n m clients k b ok (exits n me at.state).state (exits-fits n m me at.state fits.ranges) (named_none clients n) (λ e. z)

  pub responds-block : (j : ServerId) (o : Option Request) → valid_owner o ≡ true → named clients o ≡ true
      → ClientIs n m clients k (written n m k b (responds (enough m) n (record { 0 = k }) j o (client_place b).state).state)
      (placed b (responds (enough m) n (record { 0 = k }) j o (client_place b).state).state)
  responds-block j o v w =
      stored-client n m clients k b ok (responds (enough m) n me j o at.state).state (responds-fits n m me j o v at.state fits)
      (responds-names (enough m) n clients me j o w at.state B.names)
      (λ e. remainder_clear n m clients k b ok (sym (responds-section (enough m) n clients me j o w at.state) ∙ e))

  pub checked-block : (j : ServerId) (t : Timestamp)
      → ClientIs n m clients k (written n m k b (checked (record { 0 = k }) j t (client_place b).state).state)
      (placed b (checked (record { 0 = k }) j t (client_place b).state).state)
  checked-block j t =
      rw (checked-state me j t at.state)
      (stored-client n m clients k b ok (saw t at.state) (saw-fits n m me t at.state fits) B.names (λ e. remainder_clear n m clients k b ok e))

-- a new client's record, in a block without flags
pub fresh-block : (n m clients k : ℕ) (b : List ℕ) → Frame n b → n ≤ system_servers → every zero_word (flags b) ≡ true → InRange n m (record { 0 = k })
    → ClientIs n m clients k (written n m k b (fresh n)) (placed b (fresh n))
fresh-block n m clients k b B few z R =
    stored_frame n m clients k b B few (fresh n) (remainder_fits n m (record { 0 = k }) R (record { 0 = 0 }) (record { 0 = 0 })) (named_none clients n) (λ e. z)
