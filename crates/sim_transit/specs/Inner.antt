-- Definitions that only the contracts of private functions cite: no promise rests on them.
use Rattle.std.specs.Prelude.{ℕ, ◌+◌, ◌*◌, ◌<◌, ◌≤◌, ◌≡◌, Bool, false, ◌&&◌, List, leb, length, get_or, drop, Ok}
use Rattle.std.proofs.lemmas.List.Edits.{sets}
use Rattle.ids.specs.Limits.{within}
use Rattle.wire.specs.Calls.{read_of}
use Rattle.wire.specs.Format.{valid_fields}
use Rattle.wire.specs.declared.Fields.{Fields}
use Rattle.wire.specs.declared.Message.{Message}
use Rattle.sim_transit.specs.Slots.{slot_size}
use Rattle.sim_transit.specs.Calls.{Ordered, slot_words}

-- a message's numbers, in range and of parties that are there
unfoldable pub named_fields : ℕ → ℕ → Fields → Bool
named_fields n clients f = valid_fields f && (within f.client clients && (within f.server n && leb f.owner clients))

-- r is the first slot with this number or one above it
pub record Bound (number len : ℕ) (t : List ℕ) (r : ℕ) : Type 0 where
  pub within : r ≤ len
  pub below : Ordered len t → (i : ℕ) → i < r → get_or t (slot_size * i) 0 < number
  pub above : Ordered len t → (i : ℕ) → r ≤ i → i < len → number ≤ get_or t (slot_size * i) 0

-- the message at place `from` of the bytes stands as number `number` from word `at` on, and r is the place behind it
pub record PostsOne (at number from : ℕ) (bytes t t' : List ℕ) (r : ℕ) : Type 0 where
  pub inside : r ≤ length bytes
  pub same : length t' ≡ length t
  pub behind : (m : Message) (used : ℕ) → read_of (drop from bytes) ≡ Ok (m, used) → r ≡ from + used
  pub put : (m : Message) (used : ℕ) → read_of (drop from bytes) ≡ Ok (m, used) → t' ≡ sets t at (slot_words (record { number = number; delivered = false; message = m }))
