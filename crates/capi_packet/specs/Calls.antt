-- What the calls on packets return, 0 or a refusal's number, and what they leave in the words or bytes they were lent.
use Rattle.ids.specs.declared.Refusal.{Refusal}
use Rattle.wire.specs.declared.Message.{Message}
use Rattle.std.specs.Prelude.{ℕ, ◌-◌, List, ltb, length, replicate, if◌then◌else◌, Ok, Err, Result, Some, None, Option}
use Rattle.std.proofs.lemmas.List.Edits.{sets}
use Rattle.ids.specs.Refusals.{code}
use Rattle.ids.specs.declared.Refusal.TheVariants.{RoomShort}
use Rattle.wire.specs.Format.{fields_of}
use Rattle.wire.specs.Says.{read_values}
use Rattle.capi.specs.Calls.{read_size}

-- `sigma_packet_next`, from what the reader answers: its refusals, then 6 where fewer words are lent than for a message that was read
abbrev pub next_code : Result (Option (Message × ℕ)) Refusal → ℕ → ℕ
next_code (Err e) room = code e
next_code (Ok None) room = if ltb room read_size then code RoomShort else 0
next_code (Ok (Some (m, next))) room = if ltb room read_size then code RoomShort else 0

-- the words afterwards: the message's five and its bytes, as `sigma_read` gives them, or zeros where the packet ends; after a refusal all as found
abbrev pub next_words : Result (Option (Message × ℕ)) Refusal → ℕ → List ℕ → List ℕ
next_words (Err e) at ws = ws
next_words (Ok None) at ws = if ltb (length ws) read_size then ws else sets ws 0 (replicate read_size 0)
next_words (Ok (Some (m, next))) at ws = if ltb (length ws) read_size then ws else sets ws 0 (read_values (fields_of m) (next - at))
