-- What `read` and `write` answer and leave behind: the rows 'read' and 'write' of document 01's table, each number in its order.
use Rattle.ids.specs.declared.Refusal.{Refusal}
use Rattle.std.specs.Prelude.{ℕ, not, ◌&&◌, List, eqb, ltb, leb, length, if◌then◌else◌, Ok, Err, Result}
use Rattle.std.proofs.lemmas.List.Edits.{sets}
use Rattle.ids.specs.Limits.{max_servers}
use Rattle.ids.specs.declared.Refusal.TheVariants.{HeaderShort, KindUnknown, LengthWrong, MessageCut, NumberOutOfRange, RoomShort}
use Rattle.wire.specs.Format.{known, fields_of, bytes_of_fields, valid_fields_up_to, length_of, length_in, kind_in, fields_in, message_of, valid_up_to, size_of, bytes_of}
use Rattle.wire.specs.declared.Message.{Message}
use Rattle.wire.specs.declared.Fields.{Fields}

-- each up to a limit of servers
unfoldable pub read_up_to : ℕ → List ℕ → Result (Message × ℕ) Refusal
read_up_to limit s =
    let kind : ℕ = kind_in s in
    let m : Message = message_of (fields_in s) in
    if ltb (length s) 4 then Err HeaderShort
    else if not (known kind) then Err KindUnknown
    else if not (eqb (length_in s) (length_of kind)) then Err LengthWrong
    else if ltb (length s) (length_of kind) then Err MessageCut
    else if not (valid_up_to limit m) then Err NumberOutOfRange
    else Ok (m, length_of kind)

abbrev pub read_of : List ℕ → Result (Message × ℕ) Refusal
read_of = read_up_to max_servers

unfoldable pub write_up_to : ℕ → Message → ℕ → Result ℕ Refusal
write_up_to limit m room =
    if not (valid_up_to limit m) then Err NumberOutOfRange
    else if ltb room (size_of m) then Err RoomShort
    else Ok (size_of m)

abbrev pub write_of : Message → ℕ → Result ℕ Refusal
write_of = write_up_to max_servers

-- the buffer afterwards: the message from its start, the bytes behind it as found; after a refusal all as found
unfoldable pub buffer_after_up_to : ℕ → Message → List ℕ → List ℕ
buffer_after_up_to limit m buffer =
    if valid_up_to limit m && leb (size_of m) (length buffer) then sets buffer 0 (bytes_of m) else buffer

abbrev pub buffer_after : Message → List ℕ → List ℕ
buffer_after = buffer_after_up_to max_servers

-- an answer of reading with the message as its numbers
abbrev pub numbers_of : Result (Message × ℕ) Refusal → Result (Fields × ℕ) Refusal
numbers_of (Err e) = Err e
numbers_of (Ok (m, n)) = Ok (fields_of m, n)

-- a message's numbers laid down where there is room for them
unfoldable pub lay_of : Fields → ℕ → Result ℕ Refusal
lay_of f room = if ltb room (length_of f.kind) then Err RoomShort else Ok (length_of f.kind)

unfoldable pub laid_in : Fields → List ℕ → List ℕ
laid_in f buffer = if leb (length_of f.kind) (length buffer) then sets buffer 0 (bytes_of_fields f) else buffer

-- numbers that may be no message: 5, then as above
abbrev pub write_numbers_up_to : ℕ → Fields → ℕ → Result ℕ Refusal
write_numbers_up_to limit f room = if valid_fields_up_to limit f then lay_of f room else Err NumberOutOfRange

abbrev pub write_numbers : Fields → ℕ → Result ℕ Refusal
write_numbers = write_numbers_up_to max_servers

abbrev pub numbers_after_up_to : ℕ → Fields → List ℕ → List ℕ
numbers_after_up_to limit f buffer = if valid_fields_up_to limit f then laid_in f buffer else buffer

abbrev pub numbers_after : Fields → List ℕ → List ℕ
numbers_after = numbers_after_up_to max_servers
