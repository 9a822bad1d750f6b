-- The three steps of a server, on a valid block: what its call does, what it sends, and what the block is with the step's record.
use Rattle.std.specs.Prelude.{Some}
use Prim.Native.Nat.{ℕ, ◌*◌, ◌≤◌}
use native.Mathlib.Omega.{arith}
use mathlib.Core.Path.{◌≡◌, refl, ap, ◌∙◌}
use mathlib.Core.Bool.{true, false}
use mathlib.Core.List.{List}
use lib.Dec.{leb, ltb}
use lib.ListN.{length}
use borrow.Author.Tests.{eq-eqb, le-ltb}
use Rattle.ids.specs.Lists.{every}
use Rattle.ids.specs.Limits.{valid_request}
use Rattle.ids.specs.declared.ClientId.{ClientId}
use Rattle.ids.specs.declared.ServerId.{ServerId}
use Rattle.ids.specs.declared.Timestamp.{Timestamp}
use Rattle.ids.specs.declared.Request.{Request}
use Rattle.wire.specs.Step.{Step, stepped}
use Rattle.wire.specs.Format as format
use Rattle.server_votes.specs.declared.Tag.{Tag}
use Rattle.server_votes.specs.Figure1.{State, candidates, receive, suspect, check}
use Rattle.server.specs.Record as server
use Rattle.server.specs.declared.Server.{Server}
use Rattle.server.specs.Calls.{server_after, message_outcome, message_outcome_up_to, suspect_outcome, check_outcome}
use Rattle.server.proofs.CallLaws.{received_as}
use Rattle.server.proofs.Pigeonhole.{queue-fits}
use Rattle.server.proofs.KeepsValid.{Good, receive-good, suspect-good, check-good}
use Rattle.words.specs.Records.{server_from}
use Rattle.words.proofs.RecordsLaws.{server-row}
use Rattle.server_votes.proofs.Tagged.{message, message-request}
use Rattle.system.proofs.Tokens.{worth}
use Rattle.system.proofs.ServerSteps.{Holds, every_holds, holds-every, Fair, none_gained, fair_receive, fair_suspect, fair_check}
use Rattle.sim_blocks.specs.Blocks.{server_record, server_place, named_pair, valid_server_block, queue_words}
use Rattle.sim_blocks.proofs.Facts.{ServerBlock, server-facts, server-good}
use Rattle.sim_blocks.proofs.ServerLaws.{ServerIs, server_of, server-written, stored-server}
use Rattle.system.specs.Limits.{system_clients}
use Rattle.system.specs.Numbered.{server_no}

-- r is a request of one of so many clients
abbrev OfClients : ℕ → Request → Type 0
OfClients clients r = leb r.client.0 clients ≡ true

-- the tokens of no request matter here
abbrev no_one : Request → Type 0
no_one r = ⊥

module _ (n clients j : ℕ) (b : List ℕ) (ok : valid_server_block n clients (server_no j) b ≡ true) where
  abbrev me : ServerId
  me = record { 0 = j }

  abbrev B : ServerBlock n clients j b
  B = server-facts n clients j b ok

  abbrev its : Server
  its = server_from (server_record b)

  abbrev at : State
  at = (server_place b).state

  good : Good at
  good = server-good n clients j b B

  holds : Holds (OfClients clients) at
  holds = every_holds (named_pair clients) at B.names

  shows : server.view its ≡ at
  unfolding server_place
  shows = refl

  row-long : length its.row ≡ queue_words
  row-long = server-row queue_words (server_record b) B.held

  -- what a step sends names only the clients
  module _ (tag : Tag) (r : Request) (c : leb r.client.0 clients ≡ true) where
    fair : Fair (OfClients clients) no_one me at.owner (λ p. worth p (message tag r.client me r.timestamp)) (receive me tag r at)
    fair = fair_receive tag r (λ p x. absurd x) c holds

    receive-names : every (named_pair clients) (candidates (receive me tag r at).state) ≡ true
    receive-names = holds-every (named_pair clients) (receive me tag r at).state fair.holds

    module _ (v : valid_request r ≡ true) where
      -- so many clients fit a queue: it is never full
      pub receive-short : length (receive (record { 0 = j }) tag r (server_place b).state).state.queue ≤ clients
      receive-short = queue-fits clients (receive me tag r at).state (receive-good me tag r at v good) receive-names

      pub receive-block : clients ≤ system_clients
          → ServerIs n clients j (server-written n j b (receive (record { 0 = j }) tag r (server_place b).state).state)
          (record { up = (server_place b).up; state = (receive (record { 0 = j }) tag r (server_place b).state).state })
      receive-block few = stored-server n clients j b ok (receive me tag r at).state (receive-good me tag r at v good) receive-names
          (omega (arith, receive-short))

  suspect_fair : Fair (OfClients clients) no_one me at.owner none_gained (suspect me at)
  suspect_fair = fair_suspect (λ p x. absurd x) holds

  suspect-names : every (named_pair clients) (candidates (suspect me at).state) ≡ true
  suspect-names = holds-every (named_pair clients) (suspect me at).state suspect_fair.holds

  pub suspect-short : length (suspect (record { 0 = j }) (server_place b).state).state.queue ≤ clients
  suspect-short = queue-fits clients (suspect me at).state (suspect-good me at good) suspect-names

  pub suspect-block : clients ≤ system_clients
      → ServerIs n clients j (server-written n j b (suspect (record { 0 = j }) (server_place b).state).state)
      (record { up = (server_place b).up; state = (suspect (record { 0 = j }) (server_place b).state).state })
  suspect-block few =
      stored-server n clients j b ok (suspect me at).state (suspect-good me at good) suspect-names (omega (arith, suspect-short))

  check_fair : Fair (OfClients clients) no_one me at.owner none_gained (check me at)
  check_fair = fair_check holds

  check-names : every (named_pair clients) (candidates (check me at).state) ≡ true
  check-names = holds-every (named_pair clients) (check me at).state check_fair.holds

  pub check-short : length (check (record { 0 = j }) (server_place b).state).state.queue ≤ clients
  check-short = queue-fits clients (check me at).state (check-good me at good) check-names

  pub check-block : clients ≤ system_clients
      → ServerIs n clients j (server-written n j b (check (record { 0 = j }) (server_place b).state).state)
      (record { up = (server_place b).up; state = (check (record { 0 = j }) (server_place b).state).state })
  check-block few =
      stored-server n clients j b ok (check me at).state (check-good me at good) check-names (omega (arith, check-short))

  -- the record that an accepted call gives back
  pub server-after : (p : Step State) → server_after (server_from (server_record b)) (stepped p) ≡ server_of n j p.state
  server-after p = rw (B.servers, B.number, row-long)

  -- what the calls do
  pub receive-outcome : (tag : Tag) (k : ClientId) (t : Timestamp) → format.valid (message tag k (record { 0 = j }) t) ≡ true
      → leb k.0 clients ≡ true → clients ≤ system_clients
      → message_outcome (server_from (server_record b)) (message tag k (record { 0 = j }) t) ≡ stepped
      (receive (record { 0 = j }) tag (record { client = k; timestamp = t }) (server_place b).state)
  unfolding message_outcome_up_to
  receive-outcome tag k t w c few =
      let r : Request = record { client = k; timestamp = t } in
      let s = receive-short tag r c (message-request tag k me t w) in
      let f : ltb (length its.row) (2 * length (receive me tag r at).state.queue) ≡ false = le-ltb (length its.row)
      (2 * length (receive me tag r at).state.queue) (omega (arith, row-long)) in
      rw (B.valid, w, received_as its tag k me t, shows, B.number, eq-eqb j j refl, f)

  pub suspect-outcome : (o : Request) → (server_place b).state.owner ≡ Some o
      → suspect_outcome (server_from (server_record b)) ≡ stepped (suspect (record { 0 = j }) (server_place b).state)
  unfolding suspect_outcome
  suspect-outcome o e =
      let f : its.head.votes.owner ≡ Some o = ap (λ (q : State). q.owner) shows ∙ e in
      rw (B.valid, shows, f, B.number)

  pub check-outcome : check_outcome (server_from (server_record b)) ≡ stepped (check (record { 0 = j }) (server_place b).state)
  unfolding check_outcome
  check-outcome = rw (B.valid, shows, B.number)
