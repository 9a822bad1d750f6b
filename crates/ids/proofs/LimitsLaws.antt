-- What the range tests say of the numbers.
use Prim.Native.Nat.{ℕ, ◌≤◌}
use mathlib.Core.Path.{◌≡◌}
use mathlib.Core.Bool.{true}
use lib.Dec.{leb}
use borrow.Author.Tests.{leb-true}
use Rattle.ids.specs.Limits.{within, max_client, max_servers, max_timestamp, valid_client, valid_server, valid_server_up_to, valid_timestamp, valid_request, valid_parties_up_to, valid_stamped_up_to}
use Rattle.ids.specs.declared.ClientId.{ClientId}
use Rattle.ids.specs.declared.ServerId.{ServerId}
use Rattle.ids.specs.declared.Timestamp.{Timestamp}
use Rattle.ids.specs.declared.Request.{Request}
use Rattle.ids.proofs.Choice.{both}

pub within-range : (x n : ℕ) → within x n ≡ true → (1 ≤ x) × (x ≤ n)
within-range x n h =
    let (a, b) = both (leb 1 x) (leb x n) h in
    (leb-true 1 x a, leb-true x n b)

pub client-range : (k : ClientId) → valid_client k ≡ true → (1 ≤ k.0) × (k.0 ≤ max_client)
client-range k h = within-range k.0 max_client h

pub server-range : (j : ServerId) → valid_server j ≡ true → (1 ≤ j.0) × (j.0 ≤ max_servers)
server-range j h = within-range j.0 max_servers h

pub timestamp-range : (t : Timestamp) → valid_timestamp t ≡ true → (1 ≤ t.0) × (t.0 ≤ max_timestamp)
timestamp-range t h = within-range t.0 max_timestamp h

pub request-range : (q : Request) → valid_request q ≡ true → (valid_client q.client ≡ true) × (valid_timestamp q.timestamp ≡ true)
unfolding valid_request
request-range q h = both (valid_client q.client) (valid_timestamp q.timestamp) h

-- what the tests of a message's numbers say, whatever the limit of servers
module _ (limit : ℕ) (k : ClientId) (j : ServerId) where
  pub parties_range : valid_parties_up_to limit k j ≡ true → (valid_client k ≡ true) × (valid_server_up_to limit j ≡ true)
  unfolding valid_parties_up_to
  parties_range h = both (valid_client k) (valid_server_up_to limit j) h

  module _ (t : Timestamp) (h : valid_stamped_up_to limit k j t ≡ true) where
    pub stamped_range : (valid_parties_up_to limit k j ≡ true) × (valid_timestamp t ≡ true)
    unfolding valid_stamped_up_to
    stamped_range = both (valid_parties_up_to limit k j) (valid_timestamp t) h

    pub stamped_request : valid_request (record { client = k; timestamp = t }) ≡ true
    unfolding valid_request
    stamped_request = rw (parties_range stamped_range.0).0 stamped_range.1
