-- What the calls' equations mean on the words of a system: each is one of the system's definitions, and leaves the words of a system.
use Rattle.std.specs.Prelude.{Some, None}
use Prim.Native.Nat.{ℕ, ◌+◌, ◌-◌, ◌<◌, ◌≤◌}
use mathlib.Core.Path.{◌≡◌}
use mathlib.Core.Bool.{true, false}
use mathlib.Core.List.{List, ◌++◌}
use lib.ListN.{length}
use Rattle.wire.specs.declared.Message.{Message}
use Rattle.ids.specs.Lists.{every}
use Rattle.system.specs.Transit.{numbered, pending, present, replaced, gone}
use Rattle.sim_transit.specs.Slots.{slots, slot_at, names}
use Rattle.sim_transit.specs.Calls.{Valid, marked_as}

-- r is the slot of the pending message with this number, or len where there is none
pub record FindsPending (number len : ℕ) (t : List ℕ) (r : ℕ) : Type 0 where
  pub within : r ≤ len
  pub numbered : r < len → (slot_at t r).number ≡ number
  pub found : r < len → pending number (slots len t) ≡ Some (slot_at t r).message
  pub missing : r ≡ len → pending number (slots len t) ≡ None

-- r is the slot of the message with this number, pending or delivered, or len where there is none
pub record FindsPresent (number len : ℕ) (t : List ℕ) (r : ℕ) : Type 0 where
  pub within : r ≤ len
  pub numbered : r < len → (slot_at t r).number ≡ number
  pub found : r < len → present number (slots len t) ≡ true
  pub missing : r ≡ len → present number (slots len t) ≡ false

-- in t' the message of slot i is delivered or pending, as v says
pub record Marks (i v : ℕ) (t t' : List ℕ) : Type 0 where
  pub valid : (n clients sent len : ℕ) → Valid n clients sent len t → i < len → Valid n clients sent len t'
  pub after : (n clients sent len : ℕ) → Valid n clients sent len t → i < len → slots len t' ≡ replaced (slot_at t i).number (marked_as v) (slots len t)

-- in t' the message of slot i is gone
pub record Removes (len i : ℕ) (t t' : List ℕ) : Type 0 where
  pub valid : (n clients sent : ℕ) → Valid n clients sent len t → Valid n clients sent (len - 1) t'
  pub after : (n clients sent : ℕ) → Valid n clients sent len t → slots (len - 1) t' ≡ replaced (slot_at t i).number gone (slots len t)

-- in t' the messages l follow, as sent after number `sent`
pub record Posts (len sent : ℕ) (l : List Message) (t t' : List ℕ) : Type 0 where
  pub valid : (n clients : ℕ) → Valid n clients sent len t → every (names n clients) l ≡ true → Valid n clients (sent + length l) (len + length l) t'
  pub after : slots (len + length l) t' ≡ slots len t ++ numbered sent l
