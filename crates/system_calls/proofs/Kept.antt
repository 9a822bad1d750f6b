-- The invariant of every run: each client's state fits its numbers, each server's is good and knows only requests of clients that are there, and so does
-- each message in transit, which is in range. Every event keeps it.
use Rattle.std.specs.Prelude.{Some, None, Option}
use Prim.Native.Nat.{ℕ, zero, suc, ◌≤◌}
use native.Mathlib.Omega.{arith}
use mathlib.Core.Path.{◌≡◌, refl, sym, subst, ◌∙◌}
use mathlib.Core.Bool.{Bool, true, ◌&&◌}
use mathlib.Core.List.{List, [], ◌∷◌}
use lib.Dec.{leb}
use lib.ListN.{length, replicate, length-map, length-replicate, get_or-replicate}
use borrow.Author.Tests.{leb-true, le-leb}
use Rattle.ids.specs.Lists.{every}
use Rattle.ids.specs.Limits.{max_servers, max_client, within, valid_server, valid_request, valid_owner, valid_parties_up_to}
use Rattle.ids.specs.Requests.{by_owner}
use Rattle.ids.specs.declared.ClientId.{ClientId}
use Rattle.ids.specs.declared.ServerId.{ServerId}
use Rattle.ids.specs.declared.Timestamp.{Timestamp}
use Rattle.ids.specs.declared.Request.{Request}
use Rattle.ids.proofs.Choice.{both}
use Rattle.ids.proofs.ListLaws.{every-both}
use Rattle.wire.specs.Format as format
use Rattle.wire.specs.Format.{client_named, server_named, fields_of, valid_response_up_to}
use Rattle.wire.specs.Step.{Step, stepped, refused}
use Rattle.wire.specs.declared.Message.{Message}
use Rattle.wire.specs.declared.Message.TheVariants.{Request as REQUEST, Yield as YIELD, Release as RELEASE, Inquiry as INQUIRY, Response as RESPONSE, Check as CHECK}
use Rattle.server_votes.specs.declared.Tag.{Tag}
use Rattle.server_votes.specs.declared.Tag.TheVariants.{Request as Asks, Yield as Yields, Release as Releases, Inquiry as Inquires}
use Rattle.server_votes.specs.Figure1 as votes
use Rattle.server.specs.Record as server
use Rattle.server.proofs.KeepsValid.{Good, receive-good, suspect-good, check-good}
use Rattle.client_responses.specs.Figure1.{State, fresh, latest, enough, last_try, may_try, is_critical, tries, exits, responds, checked}
use Rattle.client.specs.Record as client
use Rattle.client.proofs.KeepsValid.{Fits, InRange, remainder_fits, tries-fits, exits-fits, responds-fits, saw-fits, checked-state}
use Rattle.client.proofs.ValidLaws.{sizes_range}
use Rattle.sends.proofs.ClientSends as of_client
use Rattle.sends.proofs.ServerSends as of_server
use Rattle.sends.proofs.ServerSends.{Knows}
use Rattle.system.specs.declared.Event.{Event}
use Rattle.system.specs.Numbered.{at, put, client_no}
use Rattle.system.specs.Transit.{InTransit, pending}
use Rattle.system.specs.Places.{System, ClientPlace, ServerPlace, no_client, no_server, client_at, server_at, downed}
use Rattle.system.specs.Events.{EventOutcome, client_moves, server_moves, event}
use Rattle.system.specs.Runs.{after, run_by, start, next, run_from, run}
use Rattle.system.proofs.Effects.{Effect, refuses, begins, leaves, dies, sinks, rises, server_takes, client_takes, client_checked, loses, suspects, asks, effect}
use Rattle.system.proofs.PlaceLaws.{Changes, each, put-flagged, put-numbered, flagged_in, counts-down, at-replicate}
use Rattle.system.proofs.ServerSteps.{Holds, fair_receive, fair_suspect, fair_check}
use Rattle.server_votes.proofs.Tagged.{message, message-request}
use Rattle.system.proofs.Tokens.{All, empty, every-all, all-every, length-put}
use Rattle.system.proofs.TransitLaws.{Posted, Delivery, no_gain, posted, unchanged, stills_gone, stills_keeping, delivery_dropped, pending-all, again-all}

-- a request in range of one of so many clients, and a message in range between one of them and one of n servers
abbrev pub known : ℕ → Request → Bool
known clients r = valid_request r && leb r.client.0 clients

abbrev pub Known : ℕ → Request → Type 0
Known clients r = known clients r ≡ true

abbrev between : ℕ → ℕ → Message → Bool
between n clients x = leb (client_named x).0 clients && leb (server_named x).0 n

abbrev pub there : ℕ → ℕ → Message → Bool
there n clients x = format.valid x && between n clients x

abbrev pub There : ℕ → ℕ → Message → Type 0
There n clients x = there n clients x ≡ true

pub record ServerFits (clients : ℕ) (q : votes.State) : Type 0 where
  pub good : Good q
  pub holds : Holds (Known clients) q

pub record Kept (n m clients : ℕ) (w : System) : Type 0 where
  pub all-clients : length w.clients ≡ clients
  pub all-servers : length w.servers ≡ n
  pub client-fits : (k : ℕ) → 1 ≤ k → k ≤ clients → Fits n m (client_no k) (at no_client w.clients k).state
  pub server-fits : (j : ℕ) → ServerFits clients (at no_server w.servers j).state
  pub mail : All (Posted (There n clients)) w.transit

pub there-parts : (n clients : ℕ) (x : Message) → There n clients x → (format.valid x ≡ true) × (leb (client_named x).0 clients ≡ true) × (leb (server_named x).0 n ≡ true)
there-parts n clients x h =
    let (v, r) = both (format.valid x) (between n clients x) h in
    let (a, b) = both (leb (client_named x).0 clients) (leb (server_named x).0 n) r in
    (v, a, b)

-- a message to a server
pub tagged-parts : (n clients : ℕ) (tag : Tag) (k : ClientId) (j : ServerId) (t : Timestamp) → There n clients (message tag k j t)
    → (format.valid (message tag k j t) ≡ true) × (leb k.0 clients ≡ true)
unfolding fields_of
tagged-parts n clients Asks k j t h = let (v, a, b) = there-parts n clients (REQUEST k j t) h in (v, a)
tagged-parts n clients Yields k j t h = let (v, a, b) = there-parts n clients (YIELD k j t) h in (v, a)
tagged-parts n clients Releases k j t h = let (v, a, b) = there-parts n clients (RELEASE k j t) h in (v, a)
tagged-parts n clients Inquires k j t h = let (v, a, b) = there-parts n clients (INQUIRY k j t) h in (v, a)

pub message-known : (n clients : ℕ) (tag : Tag) (k : ClientId) (j : ServerId) (t : Timestamp) → There n clients (message tag k j t)
    → Known clients (record { client = k; timestamp = t })
message-known n clients tag k j t h =
    let (v, a) = tagged-parts n clients tag k j t h in
    rw (message-request tag k j t v, a)

-- a RESPONSE's owner is in range
pub response-owner : (n clients : ℕ) (k : ClientId) (j : ServerId) (o : Option Request) → There n clients (RESPONSE k j o) → valid_owner o ≡ true
unfolding format.valid_up_to valid_response_up_to
response-owner n clients k j o h =
    let (v, a, b) = there-parts n clients (RESPONSE k j o) h in
    (both (valid_parties_up_to max_servers k j) (format.valid_named o) v).1

-- the steps of client k of n servers and threshold m
module _ (n m clients : ℕ) (k : ClientId) (s : State) (F : Fits n m k s) (last : k.0 ≤ clients) where
  -- a message of client k to server j
  parties : (j : ℕ) → j ≤ n → leb k.0 clients && leb j n ≡ true
  parties j h = rw (le-leb k.0 clients last, le-leb j n h)

  tries-there : may_try s ≡ true → every (there n clients) (tries n k s).sent ≡ true
  unfolding fields_of
  tries-there h =
      every-both format.valid (between n clients) (tries n k s).sent (of_client.tries-valid n m k s F (leb-true (latest s).0 last_try h))
      (of_client.tries_passes (between n clients) n k s (λ j a b. parties j b))

  exits-there : is_critical s.section ≡ true → every (there n clients) (exits n k s).sent ≡ true
  unfolding fields_of
  exits-there h =
      every-both format.valid (between n clients) (exits n k s).sent (of_client.exits-valid n m k s F h)
      (of_client.exits_passes (between n clients) n k s (λ j a b. parties j b))

  responds-there : (j : ServerId) (o : Option Request) → every (there n clients) (responds (enough m) n k j o s).sent ≡ true
  unfolding fields_of
  responds-there j o =
      every-both format.valid (between n clients) (responds (enough m) n k j o s).sent (of_client.responds-valid n m k s F (enough m) j o)
      (of_client.responds_passes (between n clients) (enough m) n k j o s (omega (arith, F.long)) (λ t i a b. (parties i b, parties i b, parties i b)))

  checked-there : (j : ServerId) (t : Timestamp) → There n clients (CHECK k j t) → every (there n clients) (checked k j t s).sent ≡ true
  unfolding fields_of format.valid_up_to
  checked-there j t h = of_client.checked_passes (there n clients) k j t s h

-- the steps of server j of n
module _ (n clients : ℕ) (j : ServerId) (sizes : server.valid_sizes n j ≡ true) (q : votes.State) (S : ServerFits clients q) where
  number : valid_server j ≡ true
  number =
      let (a, b) = both (within n max_servers) (within j.0 n) sizes in
      let (c, d) = both (leb 1 n) (leb n max_servers) a in
      let (e, f) = both (leb 1 j.0) (leb j.0 n) b in
      rw (e, le-leb j.0 max_servers (omega (arith, leb-true n max_servers d, leb-true j.0 n f)))

  small : leb j.0 n ≡ true
  small = (both (leb 1 j.0) (leb j.0 n) (both (within n max_servers) (within j.0 n) sizes).1).1

  owner-known : (o : Option Request) (l : List Request) → Holds (Known clients) (record { owner = o; queue = l }) → by_owner o true (known clients) ≡ true
  owner-known None l h = refl
  owner-known (Some r) l h = h.owner

  knows : Knows (known clients) q
  knows = record { owner = owner-known q.owner q.queue S.holds; queue = all-every (known clients) S.holds.queue }

  tells : (r : Request) (o : Option Request) → known clients r ≡ true → by_owner o true (known clients) ≡ true → between n clients (RESPONSE r.client j o) ≡ true
  unfolding fields_of
  tells r o a h = rw ((both (valid_request r) (leb r.client.0 clients) a).1, small)

  asks-there : (r : Request) → known clients r ≡ true → between n clients (CHECK r.client j r.timestamp) ≡ true
  unfolding fields_of
  asks-there r a = rw ((both (valid_request r) (leb r.client.0 clients) a).1, small)

  receive-there : (tag : Tag) (r : Request) → Known clients r → every (there n clients) (votes.receive j tag r q).sent ≡ true
  receive-there tag r a =
      every-both format.valid (between n clients) (votes.receive j tag r q).sent
      (of_server.receive-valid j number tag r q (both (valid_request r) (leb r.client.0 clients) a).0 S.good)
      (of_server.receive_passes (known clients) (between n clients) j tells asks-there tag r q a knows)

  suspect-there : every (there n clients) (votes.suspect j q).sent ≡ true
  suspect-there =
      every-both format.valid (between n clients) (votes.suspect j q).sent (of_server.suspect-valid j number q S.good)
      (of_server.suspect_passes (known clients) (between n clients) j tells asks-there q knows)

  check-there : every (there n clients) (votes.check j q).sent ≡ true
  check-there =
      every-both format.valid (between n clients) (votes.check j q).sent (of_server.check-valid j number q S.good)
      (of_server.check_passes (known clients) (between n clients) j tells asks-there q knows)

-- the tokens of no request matter here
abbrev no_one : Request → Type 0
no_one r = ⊥

module _ (clients : ℕ) (j : ServerId) (q : votes.State) (S : ServerFits clients q) where
  pub receive-fits : (tag : Tag) (r : Request) → Known clients r → ServerFits clients (votes.receive j tag r q).state
  receive-fits tag r a =
      record {
        good = receive-good j tag r q (both (valid_request r) (leb r.client.0 clients) a).0 S.good;
        holds = (fair_receive {P = Known clients} {R = no_one} {j = j} tag r (λ p x. absurd x) a S.holds).holds;
      }

  suspect-fits : ServerFits clients (votes.suspect j q).state
  suspect-fits = record { good = suspect-good j q S.good; holds = (fair_suspect {P = Known clients} {R = no_one} {j = j} (λ p x. absurd x) S.holds).holds }

  check-fits : ServerFits clients (votes.check j q).state
  check-fits = record { good = check-good j q S.good; holds = (fair_check {P = Known clients} {R = no_one} {j = j} S.holds).holds }

pub idle-fits : (clients : ℕ) → ServerFits clients votes.idle
unfolding valid_owner
idle-fits clients =
    record { good = record { owner = refl; all = refl; behind = refl; sorted = tt; single = tt }; holds = record { owner = tt; queue = empty } }

-- what a result leaves keeps it
abbrev Goes : ℕ → ℕ → ℕ → EventOutcome → Type 0
Goes n m clients (refused x) = Unit {0}
Goes n m clients (stepped s) = Kept n m clients s.state

module _ (n m clients : ℕ) (w : System) (K : Kept n m clients w) where
  pub has-client : (k : ClientId) → (client_at w k).living ≡ true → (1 ≤ k.0) × (k.0 ≤ clients)
  has-client k lives = let (a, b) = flagged_in no_client (λ (c : ClientPlace). c.living) refl w.clients k.0 lives in
      (a, omega (arith, K.all-clients))

  pub has-server : (j : ServerId) → (server_at w j).up ≡ true → (1 ≤ j.0) × (j.0 ≤ n)
  has-server j up = let (a, b) = flagged_in no_server (λ (q : ServerPlace). q.up) refl w.servers j.0 up in
      (a, omega (arith, K.all-servers))

  pub new_client_lem : (k : ClientId) (c : ClientPlace) → (client_at w k).living ≡ true
      → Changes (at no_client w.clients) (at no_client (put w.clients k.0 c)) k.0 c
  new_client_lem k = put-flagged no_client (λ (c : ClientPlace). c.living) refl w.clients k.0

  pub new_server_lem : (j : ServerId) (q : ServerPlace) → (server_at w j).up ≡ true
      → Changes (at no_server w.servers) (at no_server (put w.servers j.0 q)) j.0 q
  new_server_lem j = put-flagged no_server (λ (q : ServerPlace). q.up) refl w.servers j.0

  its-fits : (k : ClientId) → (client_at w k).living ≡ true → Fits n m k (client_at w k).state
  its-fits k lives = let (a, b) = has-client k lives in K.client-fits k.0 a b

  -- one client's place, or one server's, is another
  clients_fit : (k : ClientId) (c : ClientPlace) → (client_at w k).living ≡ true → Fits n m k c.state
      → (i : ℕ) → 1 ≤ i → i ≤ clients → Fits n m (client_no i) (at no_client (put w.clients k.0 c) i).state
  clients_fit k c lives F i =
      each (new_client_lem k c lives) (λ (x : ClientPlace). 1 ≤ i → i ≤ clients → Fits n m (client_no i) x.state) i
      (λ e a b. subst (λ (x : ℕ). Fits n m (client_no x) c.state) (sym e) F)
      (λ e. K.client-fits i)

  servers_fit : (j : ServerId) (q : ServerPlace) → Changes (at no_server w.servers) (at no_server (put w.servers j.0 q)) j.0 q
      → ServerFits clients q.state → (i : ℕ) → ServerFits clients (at no_server (put w.servers j.0 q) i).state
  servers_fit j q ch S i = each ch (λ (x : ServerPlace). ServerFits clients x.state) i (λ e. S) (λ e. K.server-fits i)

  client-keeps : (k : ClientId) (l : List InTransit) (d : List ℕ) (s : Step State) → (client_at w k).living ≡ true → Delivery no_gain w.transit [] l
      → Fits n m k s.state → every (there n clients) s.sent ≡ true → Kept n m clients (client_moves w k l d s).state
  client-keeps k l d s lives D F h =
      record {
        all-clients = length-put w.clients k.0 _ ∙ K.all-clients;
        all-servers = K.all-servers;
        client-fits = clients_fit k (record { living = true; state = s.state; downs = d }) lives F;
        server-fits = K.server-fits;
        mail = (posted w.sent D).arrive (There n clients) K.mail (every-all (there n clients) s.sent h);
      }

  server-keeps : (j : ServerId) (l : List InTransit) (s : Step votes.State) → (server_at w j).up ≡ true → Delivery no_gain w.transit [] l
      → ServerFits clients s.state → every (there n clients) s.sent ≡ true → Kept n m clients (server_moves w j l s).state
  server-keeps j l s up D S h =
      record {
        all-clients = K.all-clients;
        all-servers = length-put w.servers j.0 _ ∙ K.all-servers;
        client-fits = K.client-fits;
        server-fits = servers_fit j (record { up = true; state = s.state }) (new_server_lem j _ up) S;
        mail = (posted w.sent D).arrive (There n clients) K.mail (every-all (there n clients) s.sent h);
      }

  -- a message that is pending
  pub arrived : (i : ℕ) (x : Message) → pending i w.transit ≡ Some x → There n clients x
  arrived i x e = pending-all (There n clients) i e K.mail

  pub server_sizes : client.valid_sizes n m ≡ true → (j : ServerId) → 1 ≤ j.0 → j.0 ≤ n → server.valid_sizes n j ≡ true
  server_sizes z j a b = let (c, d, e, f) = sizes_range n m z in rw (le-leb 1 n c, le-leb n max_servers d, le-leb 1 j.0 a, le-leb j.0 n b)

  module _ (z : client.valid_sizes n m ≡ true) where
    up_sizes : (j : ServerId) → (server_at w j).up ≡ true → server.valid_sizes n j ≡ true
    up_sizes j up = let (a, b) = has-server j up in server_sizes z j a b

    goes : {e : Event} {o : EventOutcome} → Effect n (enough m) w e o → Goes n m clients o
    goes refuses = tt
    goes (begins {k = k} lives rest may) =
        let F = its-fits k lives in
        client-keeps k w.transit _ (tries n k (client_at w k).state) lives unchanged
        (tries-fits n m k (client_at w k).state F.ranges (leb-true (latest (client_at w k).state).0 last_try may))
        (tries-there n m clients k (client_at w k).state F (has-client k lives).1 may)
    goes (leaves {k = k} lives inside) =
        let F = its-fits k lives in
        client-keeps k w.transit _ (exits n k (client_at w k).state) lives unchanged
        (exits-fits n m k (client_at w k).state F.ranges)
        (exits-there n m clients k (client_at w k).state F (has-client k lives).1 inside)
    goes (dies {k = k} lives) =
        record {
          all-clients = length-put w.clients k.0 _ ∙ K.all-clients;
          all-servers = K.all-servers;
          client-fits = clients_fit k _ lives (its-fits k lives);
          server-fits = K.server-fits;
          mail = K.mail;
        }
    goes (sinks {j = j} up) =
        record {
          all-clients = length-map w.clients (downed j) ∙ K.all-clients;
          all-servers = length-put w.servers j.0 _ ∙ K.all-servers;
          client-fits = λ k a b. rw (counts-down j w.clients k).state (K.client-fits k a b);
          server-fits = servers_fit j _ (new_server_lem j _ up) (idle-fits clients);
          mail = again-all (There n clients) j K.mail;
        }
    goes (rises {j = j} here) =
        record {
          all-clients = K.all-clients;
          all-servers = length-put w.servers j.0 _ ∙ K.all-servers;
          client-fits = K.client-fits;
          server-fits = servers_fit j _ (put-numbered no_server w.servers j.0 _ here) (K.server-fits j.0);
          mail = K.mail;
        }
    goes (server_takes {i = i} tag k j t e up) =
        let r : Request = record { client = k; timestamp = t } in
        let a = message-known n clients tag k j t (arrived i.0 (message tag k j t) e) in
        server-keeps j _ (votes.receive j tag r (server_at w j).state) up (delivery_dropped stills_keeping i.0)
        (receive-fits clients j (server_at w j).state (K.server-fits j.0) tag r a)
        (receive-there n clients j (up_sizes j up) (server_at w j).state (K.server-fits j.0) tag r a)
    goes (client_takes {i = i} {k = k} {j = j} {o = o} e lives) =
        let F = its-fits k lives in
        client-keeps k _ _ (responds (enough m) n k j o (client_at w k).state) lives (delivery_dropped stills_gone i.0)
        (responds-fits n m k j o (response-owner n clients k j o (arrived i.0 (RESPONSE k j o) e)) (client_at w k).state F)
        (responds-there n m clients k (client_at w k).state F (has-client k lives).1 j o)
    goes (client_checked {i = i} {k = k} {j = j} {t = t} e lives) =
        let F = its-fits k lives in
        client-keeps k _ _ (checked k j t (client_at w k).state) lives (delivery_dropped stills_gone i.0)
        (rw (checked-state k j t (client_at w k).state) (saw-fits n m k t (client_at w k).state F))
        (checked-there n m clients k (client_at w k).state F (has-client k lives).1 j t (arrived i.0 (CHECK k j t) e))
    goes (loses {i = i}) =
        record {
          all-clients = K.all-clients;
          all-servers = K.all-servers;
          client-fits = K.client-fits;
          server-fits = K.server-fits;
          mail = (delivery_dropped stills_gone i.0).arrive (There n clients) K.mail empty;
        }
    goes (suspects {j = j} up e dead) =
        server-keeps j w.transit (votes.suspect j (server_at w j).state) up unchanged
        (suspect-fits clients j (server_at w j).state (K.server-fits j.0))
        (suspect-there n clients j (up_sizes j up) (server_at w j).state (K.server-fits j.0))
    goes (asks {j = j} up) =
        server-keeps j w.transit (votes.check j (server_at w j).state) up unchanged
        (check-fits clients j (server_at w j).state (K.server-fits j.0))
        (check-there n clients j (up_sizes j up) (server_at w j).state (K.server-fits j.0))

-- a run keeps it
module _ (n m clients : ℕ) (z : client.valid_sizes n m ≡ true) where
  kept-after : (w : System) → Kept n m clients w → (o : EventOutcome) → Goes n m clients o → Kept n m clients (after w o)
  unfolding after
  kept-after w K (refused x) g = K
  kept-after w K (stepped s) g =
      record {
        all-clients = g.all-clients;
        all-servers = g.all-servers;
        client-fits = g.client-fits;
        server-fits = g.server-fits;
        mail = g.mail;
      }

  kept_from : (w : System) → Kept n m clients w → (es : List Event) → Kept n m clients (run_from n (enough m) w es)
  unfolding run_by
  kept_from w K [] = K
  kept_from w K (e ∷ es) = kept_from (next n (enough m) w e)
      (kept-after w K (event n (enough m) w e) (goes n m clients w K z (effect n (enough m) w e))) es

  fresh-fits : (few : clients ≤ max_client) (k : ℕ) → 1 ≤ k → k ≤ clients
      → Fits n m (client_no k) (at no_client (replicate clients (record { living = true; state = fresh n; downs = [] })) k).state
  fresh-fits few zero a b = absurd (omega arith)
  fresh-fits few (suc k) a b =
      let (c, d, e, f) = sizes_range n m z in
      let R : InRange n m (client_no (suc k)) = record
      { some = c; few = d; threshold = e; reached = f; client = rw (le-leb 1 (suc k) a, le-leb (suc k) max_client (omega arith)) } in
      rw (get_or-replicate clients k (record { living = true; state = fresh n; downs = [] }) no_client (omega arith))
      (remainder_fits n m (client_no (suc k)) R (record { 0 = 0 }) (record { 0 = 0 }))

  kept-start : clients ≤ max_client → Kept n m clients (start n (enough m) clients)
  unfolding start
  kept-start few =
      record {
        all-clients = length-replicate clients _;
        all-servers = length-replicate n _;
        client-fits = fresh-fits few;
        server-fits = λ j. at-replicate no_server (λ (q : ServerPlace). ServerFits clients q.state) n j _ (idle-fits clients) (idle-fits clients);
        mail = empty;
      }

  pub kept_run : clients ≤ max_client → (es : List Event) → Kept n m clients (run n (enough m) clients es)
  kept_run few es = kept_from (start n (enough m) clients) (kept-start few) es
