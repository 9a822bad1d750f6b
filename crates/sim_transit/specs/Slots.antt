-- Messages in transit as words: a slot of seven words for each. A slot is the message's number, 1 if it is delivered and 0 if it is
-- pending, and the message's five words. The used slots stand first, and every word behind them is 0.
use Rattle.ids.specs.declared.Refusal.{Refusal}
use Rattle.std.specs.Prelude.{ℕ, zero, suc, ◌*◌, Bool, true, false, ◌&&◌, List, [], ◌∷◌, map, eqb, ltb, leb, length, get_or, take, drop, Ok, Err, Result}
use Rattle.ids.specs.Choice.{maybe}
use Rattle.ids.specs.Limits.{within}
use Rattle.wire.specs.Format.{fields_of, message_of}
use Rattle.wire.specs.Calls.{read_of}
use Rattle.wire.specs.declared.Message.{Message}
use Rattle.ids.specs.Lists.{every}
use Rattle.words.specs.Messages.{fields_from, message_in}
use Rattle.system.specs.Limits.{system_messages}
use Rattle.system.specs.Transit.{InTransit}

-- the words of a slot, and of all slots
abbrev pub slot_size : ℕ
slot_size = 7

abbrev pub transit_size : ℕ
transit_size = slot_size * system_messages

-- what a slot's words hold
unfoldable pub slot_of : List ℕ → InTransit
slot_of ws = record { number = get_or ws 0 0; delivered = eqb (get_or ws 1 0) 1; message = message_of (fields_from (drop 2 ws)) }

-- the words of the first len slots, slot by slot
unfoldable pub rows : ℕ → List ℕ → List (List ℕ)
rows zero t = []
rows (suc len) t = take slot_size t ∷ rows len (drop slot_size t)

-- the messages in the first len slots
unfoldable pub slots : ℕ → List ℕ → List InTransit
slots len t = map slot_of (rows len t)

-- the message in slot i, counted from 0
abbrev pub slot_at : List ℕ → ℕ → InTransit
slot_at t i = slot_of (take slot_size (drop (slot_size * i) t))

-- the message names a client, a server and, if it has one, an owner that are there; no owner is 0
unfoldable pub names : ℕ → ℕ → Message → Bool
names n clients m = within (fields_of m).client clients && (within (fields_of m).server n && leb (fields_of m).owner clients)

-- pending or delivered, and a message in range
unfoldable pub valid_slot : ℕ → ℕ → List ℕ → Bool
valid_slot n clients ws = leb (get_or ws 1 0) 1 && maybe (message_in (drop 2 ws)) false (names n clients)

-- the numbers ascend from above `last` to at most `sent`
unfoldable pub ascending : ℕ → ℕ → List InTransit → Bool
ascending last sent [] = true
ascending last sent (x ∷ l) = ltb last x.number && (leb x.number sent && ascending x.number sent l)

-- the words hold the messages in transit of a system with n servers and so many clients, whose last message sent has number `sent`
unfoldable pub valid_slots : ℕ → ℕ → ℕ → ℕ → List ℕ → Bool
valid_slots n clients sent len t =
    eqb (length t) transit_size
    && (leb len system_messages
    && (every (valid_slot n clients) (rows len t)
    && (ascending 0 sent (slots len t)
    && every (eqb 0) (drop (slot_size * len) t))))

-- the messages that bytes begin with, so many if there are as many
abbrev pub and_then : List ℕ → Result (Message × ℕ) Refusal → (List ℕ → List Message) → List Message
and_then s (Err e) f = []
and_then s (Ok (m, used)) f = m ∷ f (drop used s)

unfoldable pub messages_in : ℕ → List ℕ → List Message
messages_in zero s = []
messages_in (suc count) s = and_then s (read_of s) (messages_in count)
