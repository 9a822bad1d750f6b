-- What the calls that read and write a message return, 0 or a refusal's number, and what they leave in the words or bytes they were lent; the calls on
-- records are in `Steps`.
use Rattle.ids.specs.declared.Refusal.{Refusal}
use Rattle.std.specs.Prelude.{ℕ, List, [], ◌∷◌, ◌++◌, ltb, length, if◌then◌else◌, Ok, Err, Result, Some, None, Option}
use Rattle.std.proofs.lemmas.List.Edits.{sets}
use Rattle.ids.specs.Refusals.{code}
use Rattle.ids.specs.declared.Refusal.TheVariants.{NumberOutOfRange, RoomShort}
use Rattle.wire.specs.Format.{words, fields_of}
use Rattle.wire.specs.Calls.{write_of, buffer_after}
use Rattle.wire.specs.declared.Message.{Message}

-- the words that a message that was read is given in: its five, and the bytes used
abbrev pub read_size : ℕ
read_size = 6

-- `sigma_read`, from what reading answers: its refusals, then 6 where fewer words are lent
abbrev pub read_code : Result (Message × ℕ) Refusal → ℕ → ℕ
read_code (Err e) room = code e
read_code (Ok (m, n)) room = if ltb room read_size then code RoomShort else 0

-- the words afterwards; after a refusal all as found
abbrev pub read_words : Result (Message × ℕ) Refusal → List ℕ → List ℕ
read_words (Err e) ws = ws
read_words (Ok (m, n)) ws = if ltb (length ws) read_size then ws else sets ws 0 (words (fields_of m) ++ n ∷ [])

-- `sigma_write`, from the message that the words are: 5 where they are none, then the refusals of writing
abbrev pub written_code : Result ℕ Refusal → ℕ
written_code (Err e) = code e
written_code (Ok n) = 0

abbrev pub write_code : Option Message → ℕ → ℕ
write_code None room = code NumberOutOfRange
write_code (Some m) room = written_code (write_of m room)

-- the buffer afterwards
abbrev pub write_buffer : Option Message → List ℕ → List ℕ
write_buffer None out = out
write_buffer (Some m) out = buffer_after m out
