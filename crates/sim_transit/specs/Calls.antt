-- What the calls on the messages in transit give and leave: equations, for all words that they accept. That on the words of a system each is one
-- of the system's definitions is proofs/Means.
use Rattle.std.specs.Prelude.{ℕ, suc, ◌+◌, ◌-◌, ◌*◌, ◌<◌, ◌≤◌, ◌≡◌, Bool, true, not, ◌&&◌, List, [], ◌∷◌, ◌++◌, eqb, length, get_or, set, take, drop, replicate, if◌then◌else◌}
use Rattle.std.proofs.lemmas.List.Edits.{sets}
use Rattle.std.proofs.Math.Seq.{paste}
use Rattle.wire.specs.Format.{words, fields_of}
use Rattle.wire.specs.declared.Message.{Message}
use Rattle.words.specs.Messages.{message_in, message_or}
use Rattle.system.specs.Transit.{InTransit, numbered}
use Rattle.system.specs.Limits.{system_messages}
use Rattle.sim_transit.specs.Slots.{valid_slots, transit_size, slot_size}

-- all slots are there, and so many are used
pub record Sized (len : ℕ) (t : List ℕ) : Type 0 where
  pub size : length t ≡ transit_size
  pub few : len ≤ system_messages

-- t is a system's
abbrev pub Valid : ℕ → ℕ → ℕ → ℕ → List ℕ → Type 0
Valid n clients sent len t = valid_slots n clients sent len t ≡ true

-- the numbers of the used slots ascend
abbrev pub Ordered : ℕ → List ℕ → Type 0
Ordered len t = (i k : ℕ) → i < k → k < len → get_or t (slot_size * i) 0 < get_or t (slot_size * k) 0

-- the place of the first message that passes, counted from 0; where none does, how many there are
unfoldable pub first_slot : (InTransit → Bool) → List InTransit → ℕ
first_slot f [] = 0
first_slot f (x ∷ l) = if f x then 0 else suc (first_slot f l)

-- of the pending message with this number, and of the message whether pending or delivered
abbrev pub is_pending : ℕ → InTransit → Bool
is_pending number x = eqb x.number number && not x.delivered

abbrev pub is_numbered : ℕ → InTransit → Bool
is_numbered number x = eqb x.number number

-- the message in slot i; where its words are none, one that every call refuses
abbrev pub message_at : List ℕ → ℕ → Message
message_at t i = message_or (message_in (drop 2 (take slot_size (drop (slot_size * i) t))))

-- the message in slot i is delivered if v is 1, and pending if it is 0
abbrev pub marked : ℕ → ℕ → List ℕ → List ℕ
marked i v t = set t (slot_size * i + 1) v

abbrev pub marked_as : ℕ → InTransit → List InTransit
marked_as v x = record { number = x.number; delivered = eqb v 1; message = x.message } ∷ []

-- the message in slot i of len is gone: the slots behind it move up by one, and the last of them is empty
abbrev pub removed : ℕ → ℕ → List ℕ → List ℕ
removed len i t =
    let behind : ℕ = slot_size * (len - 1 - i) in
    sets (paste t (slot_size * i) (drop (slot_size * i + slot_size) t) behind) (slot_size * i + behind) (replicate slot_size 0)

-- the words of a message's slot, and of slots one after another
unfoldable pub slot_words : InTransit → List ℕ
slot_words x = x.number ∷ ((if x.delivered then 1 else 0) ∷ words (fields_of x.message))

unfoldable pub slots_words : List InTransit → List ℕ
slots_words [] = []
slots_words (x ∷ l) = slot_words x ++ slots_words l

-- the messages l stand behind the len that are kept, as sent after number `sent`
abbrev pub posted : ℕ → ℕ → List Message → List ℕ → List ℕ
posted len sent l t = sets t (slot_size * len) (slots_words (numbered sent l))
