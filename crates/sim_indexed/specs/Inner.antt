-- Definitions that only the contracts of private functions cite: no promise rests on them.
use Rattle.std.specs.Prelude.{ℕ, ◌+◌, ◌-◌, ◌<◌, ◌≤◌, ◌≡◌, true, List, ◌∷◌, ◌++◌, map, leb, length, if◌then◌else◌}
use Rattle.system.specs.Limits.{system_servers}
use Rattle.system.specs.Transit.{InTransit}
use Rattle.sim_transit.specs.Slots.{slots, valid_slots}
use Rattle.sim_transit.specs.Calls.{marked_as}
use Rattle.sim_index.specs.Index.{sorted, of_place}
use Rattle.sim_indexed.specs.Indexed.{table, indexed_size, in_transit, card_of, afresh}
use Rattle.sim_indexed.specs.Calls.{Few, Valid}

-- the receiver's place, by the numbers of a message: kinds 1 to 4 go to its server
unfoldable pub place_by : ℕ → ℕ → ℕ → ℕ
place_by kind client server = if leb kind 4 then server - 1 else system_servers + (client - 1)

-- the slots of a table are a system's, and slot i is one of the used ones
pub record Readable (i : ℕ) (t : List ℕ) : Type 0 where
  pub n : ℕ
  pub clients : ℕ
  pub sent : ℕ
  pub len : ℕ
  pub few : Few n clients
  pub valid : valid_slots n clients sent len t ≡ true
  pub used : i < len

-- the table, and behind it the index of the first k slots
abbrev pub with_index : ℕ → List ℕ → List ℕ
with_index k t = table t ++ afresh (slots k (table t))

-- the index is that of the first i slots, and slot i is used too
pub record Listing (i : ℕ) (t : List ℕ) : Type 0 where
  pub readable : Readable i (table t)
  pub size : length t ≡ indexed_size
  pub listed : t ≡ with_index i t

-- the index is that of the first `from` slots, and `to` of them are a system's
pub record Unlisted (from to : ℕ) (t : List ℕ) : Type 0 where
  pub n : ℕ
  pub clients : ℕ
  pub sent : ℕ
  pub few : Few n clients
  pub valid : valid_slots n clients sent to (table t) ≡ true
  pub within : from ≤ to
  pub size : length t ≡ indexed_size
  pub listed : t ≡ with_index from t

-- where the entry of x stands, which is between a and b
abbrev pub entry_place : List InTransit → InTransit → List InTransit → ℕ
entry_place a x b = length (sorted (card_of x).place (map card_of (a ++ (x ∷ b)))) + length (of_place (card_of x).place (map card_of a))

-- entry `at` is some message's
pub record EntryAt (len at : ℕ) (t : List ℕ) : Type 0 where
  pub n : ℕ
  pub clients : ℕ
  pub sent : ℕ
  pub few : Few n clients
  pub valid : Valid n clients sent len t
  pub before : List InTransit
  pub message : InTransit
  pub behind : List InTransit
  pub whole : in_transit len t ≡ before ++ (message ∷ behind)
  pub here : at ≡ entry_place before message behind

-- in t' the message of entry `at` is pending
pub record Pends (len at : ℕ) (t t' : List ℕ) : Type 0 where
  pub valid : (n clients sent : ℕ) → Few n clients → Valid n clients sent len t → Valid n clients sent len t'
  pub after : (n clients sent : ℕ) → Few n clients → Valid n clients sent len t
      → (a : List InTransit) (x : InTransit) (b : List InTransit) → in_transit len t ≡ a ++ (x ∷ b) → at ≡ entry_place a x b
      → in_transit len t' ≡ a ++ (marked_as 0 x ++ b)
