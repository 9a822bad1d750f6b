-- What a step of a valid block sends: messages in range that name parties which are there, few enough for a buffer of 512 bytes.
use Rattle.std.specs.Prelude.{Some, None, Option}
use Prim.Native.Nat.{ℕ, ◌≤◌}
use native.Mathlib.Omega.{arith}
use mathlib.Core.Path.{◌≡◌}
use mathlib.Core.Bool.{Bool, true, ◌&&◌}
use mathlib.Core.List.{List}
use lib.Dec.{leb}
use lib.ListN.{length}
use borrow.Author.Tests.{le-leb, leb-true}
use Rattle.ids.specs.Lists.{every}
use Rattle.ids.specs.Limits.{within, max_servers, valid_server, valid_request}
use Rattle.ids.specs.Requests.{by_owner}
use Rattle.ids.specs.declared.ClientId.{ClientId}
use Rattle.ids.specs.declared.ServerId.{ServerId}
use Rattle.ids.specs.declared.Timestamp.{Timestamp}
use Rattle.ids.specs.declared.Request.{Request as Pair}
use Rattle.ids.proofs.Choice.{both}
use Rattle.ids.proofs.ListLaws.{every-both}
use Rattle.ids.proofs.LimitsLaws.{within-range, request-range, client-range}
use Rattle.wire.specs.Format as format
use Rattle.wire.specs.Format.{size_of_all, fields_of, owner_client}
use Rattle.wire.specs.declared.Message.{Message}
use Rattle.wire.specs.declared.Message.TheVariants.{Response, Check}
use Rattle.server_votes.specs.declared.Tag.{Tag}
use Rattle.server_votes.specs.Figure1 as votes
use Rattle.client_responses.specs.Figure1 as client
use Rattle.client_responses.specs.Figure1.{is_critical, last_try, may_try}
use Rattle.client.proofs.KeepsValid.{Fits}
use Rattle.sim_blocks.specs.Blocks.{client_place, server_place, named_pair, valid_client_block, valid_server_block}
use Rattle.sim_blocks.proofs.Facts.{client-facts, client-fits, client-few, ServerBlock, server-facts, server_sizes, server-good}
use Rattle.sim_transit.specs.Slots.{names}
use Rattle.sends.proofs.ClientSends as of_client
use Rattle.sends.proofs.ServerSends as of_server
use Rattle.sends.proofs.ServerSends.{Knows, good_knows}
use Rattle.system.specs.Limits.{system_servers}
use Rattle.system.specs.Numbered.{client_no, server_no}
use Rattle.sim_changes.specs.Inner.{out_bytes}

-- messages that a simulation with n servers and so many clients can send
pub record Sends (n clients : ℕ) (l : List Message) : Type 0 where
  pub range : every format.valid l ≡ true
  pub named : every (names n clients) l ≡ true
  pub few : length l ≤ system_servers
  pub small : size_of_all l ≤ out_bytes

few-sends : (n clients : ℕ) (l : List Message) → n ≤ system_servers → every format.valid l ≡ true → every (names n clients) l ≡ true → of_client.AtMost n l
    → Sends n clients l
few-sends n clients l h v d a = record { range = v; named = d; few = omega (arith, a.few); small = omega (arith, a.small) }

-- a message that is no RESPONSE
stamped_names : (n clients k j : ℕ) → 1 ≤ k → k ≤ clients → 1 ≤ j → j ≤ n → within k clients && (within j n && leb 0 clients) ≡ true
stamped_names n clients k j a b c d = rw (le-leb 1 k a, le-leb k clients b, le-leb 1 j c, le-leb j n d, le-leb 0 clients (omega arith))

-- the steps of client k
module _ (n m clients k : ℕ) (b : List ℕ) (ok : valid_client_block n m clients (client_no k) b ≡ true) (first : 1 ≤ k) (last : k ≤ clients) where
  abbrev me : ClientId
  me = record { 0 = k }

  abbrev at : client.State
  at = (client_place b).state

  fits : Fits n m me at
  fits = client-fits n m clients k b (client-facts n m clients k b ok)

  few : n ≤ system_servers
  few = client-few n m clients k b (client-facts n m clients k b ok)

  pub tries-sends : may_try (client_place b).state ≡ true → Sends n clients (client.tries n (record { 0 = k }) (client_place b).state).sent
  unfolding names fields_of
  tries-sends h =
      few-sends n clients _ few (of_client.tries-valid n m me at fits (leb-true (client.latest at).0 last_try h))
      (of_client.tries_passes (names n clients) n me at (λ j p q. stamped_names n clients k j first last p q)) (of_client.tries-few n me at)

  pub exits-sends : is_critical (client_place b).state.section ≡ true → Sends n clients (client.exits n (record { 0 = k }) (client_place b).state).sent
  unfolding names fields_of
  exits-sends h =
      few-sends n clients _ few (of_client.exits-valid n m me at fits h)
      (of_client.exits_passes (names n clients) n me at (λ j p q. stamped_names n clients k j first last p q)) (of_client.exits-few n me at)

  pub responds-sends : (j : ServerId) (o : Option Pair) → Sends n clients (client.responds (client.enough m) n (record { 0 = k }) j o (client_place b).state).sent
  unfolding names fields_of
  responds-sends j o =
      let a = of_client.responds-few (client.enough m) n me j o at in
      few-sends n clients _ few (of_client.responds-valid n m me at fits (client.enough m) j o)
      (of_client.responds_passes (names n clients) (client.enough m) n me j o at (omega (arith, fits.long)) (λ t i p q.
      let v = stamped_names n clients k i first last p q in (v, v, v)))
      (record { few = omega (arith, a.few, fits.long); small = omega (arith, a.small, fits.long) })

  pub checked-sends : (j : ServerId) (t : Timestamp) → format.valid (Check (record { 0 = k }) j t) ≡ true → 1 ≤ j.0 → j.0 ≤ n
      → Sends n clients (client.checked (record { 0 = k }) j t (client_place b).state).sent
  unfolding names fields_of
  checked-sends j t v p q =
      let a = of_client.checked-few me j t at in
      record {
        range = of_client.checked-valid me j t at v;
        named = of_client.checked_passes (names n clients) me j t at (stamped_names n clients k j.0 first last p q);
        few = omega (arith, a.few);
        small = omega (arith, a.small);
      }

-- the steps of server j: the requests that it knows are in range, and of clients that are there
abbrev known-request : ℕ → Pair → Bool
known-request clients r = valid_request r && leb r.client.0 clients

module _ (clients : ℕ) where
  state-known : (o : Option Pair) (l : List Pair) → Knows valid_request (record { owner = o; queue = l })
      → every (named_pair clients) (votes.candidates (record { owner = o; queue = l })) ≡ true
      → Knows (known-request clients) (record { owner = o; queue = l })
  state-known None l k h = record { owner = k.owner; queue = every-both valid_request (named_pair clients) l k.queue h }
  state-known (Some r) l k h =
      let (b, d) = both (leb r.client.0 clients) (every (named_pair clients) l) h in
      record { owner = rw (k.owner, b); queue = every-both valid_request (named_pair clients) l k.queue d }

  owner-there : (o : Option Pair) → by_owner o true (known-request clients) ≡ true → owner_client o ≤ clients
  owner-there None h = omega arith
  owner-there (Some r) h = leb-true r.client.0 clients (both (valid_request r) (leb r.client.0 clients) h).1

module _ (n clients j : ℕ) (first : 1 ≤ j) (last : j ≤ n) where
  tells-names : (r : Pair) (o : Option Pair) → known-request clients r ≡ true → by_owner o true (known-request clients) ≡ true
      → names n clients (Response r.client (record { 0 = j }) o) ≡ true
  unfolding names fields_of
  tells-names r o a h =
      let (v, b) = both (valid_request r) (leb r.client.0 clients) a in
      let (c, d) = client-range r.client (request-range r v).0 in
      rw (le-leb 1 r.client.0 c, b, le-leb 1 j first, le-leb j n last, le-leb (owner_client o) clients (owner-there clients o h))

  asks-names : (r : Pair) → known-request clients r ≡ true → names n clients (Check r.client (record { 0 = j }) r.timestamp) ≡ true
  unfolding names fields_of
  asks-names r a =
      let (v, b) = both (valid_request r) (leb r.client.0 clients) a in
      let (c, d) = client-range r.client (request-range r v).0 in
      stamped_names n clients r.client.0 j c (leb-true r.client.0 clients b) first last

module _ (n clients j : ℕ) (b : List ℕ) (ok : valid_server_block n clients (server_no j) b ≡ true) where
  abbrev its : ServerId
  its = record { 0 = j }

  abbrev held : votes.State
  held = (server_place b).state

  abbrev B : ServerBlock n clients j b
  B = server-facts n clients j b ok

  sizes : (1 ≤ j) × (j ≤ n) × (n ≤ max_servers)
  sizes =
      let (p, q) = both (within n max_servers) (within j n) (server_sizes n clients j b B) in
      ((within-range j n q).0, (within-range j n q).1, (within-range n max_servers p).1)

  number : valid_server its ≡ true
  number = rw (le-leb 1 j sizes.0, le-leb j max_servers (omega (arith, sizes.1, sizes.2)))

  knows : Knows (known-request clients) held
  knows = state-known clients held.owner held.queue (good_knows held (server-good n clients j b B)) B.names

  three : (l : List Message) → every format.valid l ≡ true → every (names n clients) l ≡ true → length l ≤ 3 → Sends n clients l
  three l v d h = record { range = v; named = d; few = omega arith; small = omega (arith, of_server.size_few l) }

  pub receive-sends : (tag : Tag) (r : Pair) → valid_request r ≡ true → leb r.client.0 clients ≡ true
      → Sends n clients (votes.receive (record { 0 = j }) tag r (server_place b).state).sent
  receive-sends tag r v c =
      let a : known-request clients r ≡ true = rw (v, c) in
      three _ (of_server.receive-valid its number tag r held v (server-good n clients j b B))
      (of_server.receive_passes (known-request clients) (names n clients) its (tells-names n clients j sizes.0 sizes.1)
      (asks-names n clients j sizes.0 sizes.1) tag r held a knows)
      (of_server.receive-few its tag r held)

  pub suspect-sends : Sends n clients (votes.suspect (record { 0 = j }) (server_place b).state).sent
  suspect-sends =
      three _ (of_server.suspect-valid its number held (server-good n clients j b B))
      (of_server.suspect_passes (known-request clients) (names n clients) its (tells-names n clients j sizes.0 sizes.1)
      (asks-names n clients j sizes.0 sizes.1) held knows)
      (of_server.suspect-few its held)

  pub check-sends : Sends n clients (votes.check (record { 0 = j }) (server_place b).state).sent
  check-sends =
      three _ (of_server.check-valid its number held (server-good n clients j b B))
      (of_server.check_passes (known-request clients) (names n clients) its (tells-names n clients j sizes.0 sizes.1)
      (asks-names n clients j sizes.0 sizes.1) held knows)
      (of_server.check-few its held)
