-- The messages in transit with their index, as words (document 02, L2): the table of slots, and behind it the index by receiver. The words are
-- valid if the slots are and the index is the one made afresh from them.
use Rattle.system.specs.declared.MessageNumber.{MessageNumber}
use Rattle.std.specs.Prelude.{ℕ, zero, suc, ◌+◌, ◌-◌, Bool, ◌&&◌, List, [], ◌∷◌, map, eqb, length, take, drop, if◌then◌else◌, Some, None, Option}
use Rattle.system.specs.Limits.{system_servers}
use Rattle.system.specs.Transit.{InTransit}
use Rattle.system.specs.Index.{receiver_of, Entry, entry_of}
use Rattle.system.specs.declared.Receiver.{Receiver}
use Rattle.system.specs.declared.Receiver.TheVariants.{Client, Server}
use Rattle.sim_transit.specs.Slots.{transit_size, slots, slot_at, valid_slots}
use Rattle.sim_index.specs.Index.{index_size, index_words}
use Rattle.sim_index.specs.Calls.{same}
use Rattle.sim_index.specs.declared.Card.{Card}

abbrev pub indexed_size : ℕ
indexed_size = transit_size + index_size

abbrev pub table : List ℕ → List ℕ
table t = take transit_size t

abbrev pub index : List ℕ → List ℕ
index t = drop transit_size t

-- the messages in the first len slots, and the message in slot i, counted from 0
abbrev pub in_transit : ℕ → List ℕ → List InTransit
in_transit len t = slots len (table t)

abbrev pub slot_in : List ℕ → ℕ → InTransit
slot_in t i = slot_at (table t) i

-- a receiver's place in the index: the servers first, for what was delivered to them stays in transit, so that the entries that come and go most
-- stand last
abbrev pub place_of : Receiver → ℕ
place_of (Server j) = j.0 - 1
place_of (Client k) = system_servers + (k.0 - 1)

abbrev pub mark_of : InTransit → ℕ
mark_of x = if x.delivered then 1 else 0

abbrev pub card_of : InTransit → Card
card_of x = record { place = place_of (receiver_of x.message); number = x.number; mark = mark_of x }

-- the words of the index made afresh
abbrev pub afresh : List InTransit → List ℕ
afresh l = index_words (map card_of l)

unfoldable pub valid_indexed : ℕ → ℕ → ℕ → ℕ → List ℕ → Bool
valid_indexed n clients sent len t =
    eqb (length t) indexed_size && valid_slots n clients sent len (table t) && same (index t) (afresh (in_transit len t))

-- the entries of the receiver at place p, and the i-th of some entries, counted from 0
unfoldable pub entries_at : ℕ → List InTransit → List Entry
entries_at p [] = []
entries_at p (x ∷ l) = if eqb (card_of x).place p then entry_of x ∷ entries_at p l else entries_at p l

unfoldable pub listed_at : List Entry → ℕ → Option (MessageNumber × Bool)
listed_at [] i = None
listed_at (e ∷ l) zero = Some (record { 0 = e.number }, e.delivered)
listed_at (e ∷ l) (suc i) = listed_at l i
