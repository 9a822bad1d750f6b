-- What the calls on messages in transit with their index leave: the messages as the system's definitions say, and the index made afresh of them.
use Rattle.std.specs.Prelude.{ℕ, ◌+◌, ◌-◌, ◌≤◌, ◌≡◌, true, List, ◌++◌, map, length}
use Rattle.ids.specs.Lists.{every}
use Rattle.ids.specs.declared.ServerId.{ServerId}
use Rattle.wire.specs.declared.Message.{Message}
use Rattle.system.specs.Limits.{system_servers, system_clients, system_messages, last_number}
use Rattle.system.specs.Transit.{numbered, replaced, gone, keeping, again}
use Rattle.sim_transit.specs.Slots.{names}
use Rattle.sim_indexed.specs.Indexed.{indexed_size, in_transit, slot_in, valid_indexed}

-- so many servers and clients have their places in the index
pub record Few (n clients : ℕ) : Type 0 where
  pub few_servers : n ≤ system_servers
  pub few_clients : clients ≤ system_clients

abbrev pub Valid : ℕ → ℕ → ℕ → ℕ → List ℕ → Type 0
Valid n clients sent len t = valid_indexed n clients sent len t ≡ true

-- t is some system's
pub record Held (len : ℕ) (t : List ℕ) : Type 0 where
  pub n : ℕ
  pub clients : ℕ
  pub sent : ℕ
  pub few : Few n clients
  pub valid : Valid n clients sent len t
  pub size : length t ≡ indexed_size

-- in t' the message of slot i is delivered, and stays
pub record Marks (len i : ℕ) (t t' : List ℕ) : Type 0 where
  pub valid : (n clients sent : ℕ) → Few n clients → Valid n clients sent len t → Valid n clients sent len t'
  pub after : (n clients sent : ℕ) → Few n clients → Valid n clients sent len t
      → in_transit len t' ≡ replaced (slot_in t i).number keeping (in_transit len t)

-- in t' the message of slot i is gone
pub record Removes (len i : ℕ) (t t' : List ℕ) : Type 0 where
  pub valid : (n clients sent : ℕ) → Few n clients → Valid n clients sent len t → Valid n clients sent (len - 1) t'
  pub after : (n clients sent : ℕ) → Few n clients → Valid n clients sent len t
      → in_transit (len - 1) t' ≡ replaced (slot_in t i).number gone (in_transit len t)

-- in t' what was delivered to server j is pending again
pub record Restarts (len : ℕ) (j : ServerId) (t t' : List ℕ) : Type 0 where
  pub valid : (n clients sent : ℕ) → Few n clients → Valid n clients sent len t → Valid n clients sent len t'
  pub after : (n clients sent : ℕ) → Few n clients → Valid n clients sent len t → in_transit len t' ≡ map (again j) (in_transit len t)

-- in t' the messages l follow, as sent after number `sent`
pub record Posts (len sent : ℕ) (l : List Message) (t t' : List ℕ) : Type 0 where
  pub valid : (n clients : ℕ) → Few n clients → Valid n clients sent len t → every (names n clients) l ≡ true
      → Valid n clients (sent + length l) (len + length l) t'
  pub after : (n clients : ℕ) → Few n clients → Valid n clients sent len t → every (names n clients) l ≡ true
      → in_transit (len + length l) t' ≡ in_transit len t ++ numbered sent l

-- j has a place in the index
pub record Place (j : ServerId) : Type 0 where
  pub first : 1 ≤ j.0
  pub last : j.0 ≤ system_servers

-- the messages l can be sent after number `sent`
pub record CanPost (len sent : ℕ) (l : List Message) (t : List ℕ) : Type 0 where
  pub n : ℕ
  pub clients : ℕ
  pub few : Few n clients
  pub valid : Valid n clients sent len t
  pub named : every (names n clients) l ≡ true
  pub size : length t ≡ indexed_size
  pub room : len + length l ≤ system_messages
  pub numbers : sent + length l ≤ last_number
