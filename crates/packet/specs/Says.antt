-- The answers in document 02's numbers: what each case says, and the order of the refusals.
use Rattle.ids.specs.declared.Refusal.{Refusal}
use Rattle.wire.specs.declared.Message.{Message}
use Rattle.std.specs.Prelude.{ℕ, ◌+◌, not, List, [], ◌∷◌, eqb, ltb, length, if◌then◌else◌, Ok, Err, Result, Some, None, Option}
use Rattle.ids.specs.Choice.{maybe}
use Rattle.ids.specs.Refusals.{code, Says, accepts, refuses}
use Rattle.wire.specs.Format.{fields_of}
use Rattle.wire.specs.Says.{read_values, read_says}
use Rattle.packet.specs.Packet.{max_total, framed, cut, body_of}
use Rattle.packet.specs.Reading.{Found, starts, ends, nowhere, found_in}
use Rattle.packet.specs.Packing.{packed_bytes}

-- the message's five numbers and the place behind it; nothing at the packet's end
abbrev pub next_says : Result (Option (Message × ℕ)) Refusal → Says ℕ
next_says (Ok (Some (m, next))) = accepts (read_values (fields_of m) next)
next_says (Ok None) = accepts []
next_says (Err e) = refuses (code e)

-- the number of the first part that reading refuses, 0 for none
unfoldable pub first_bad : List (List ℕ) → ℕ
first_bad [] = 0
first_bad (p ∷ ps) = if eqb (read_says p).number 0 then first_bad ps else (read_says p).number

-- the refusal's number of messages one after another, 0 where they are accepted
unfoldable pub body_number : List ℕ → ℕ
body_number s = maybe (cut s) 22 first_bad

abbrev pub found_says : ℕ → Found → Says ℕ
found_says at (starts p) = accepts (read_values (fields_of p.message) (at + length p.part))
found_says at ends = accepts []
found_says at nowhere = refuses 22

unfoldable pub packet_says : List ℕ → ℕ → Says ℕ
packet_says s at =
    if not (framed s) then refuses 22
    else if not (eqb (body_number (body_of s)) 0) then refuses (body_number (body_of s))
    else found_says at (found_in s at)

unfoldable pub pack_says : List ℕ → ℕ → Says ℕ
pack_says bytes room =
    if ltb max_total (packed_bytes bytes) then refuses 22
    else if not (eqb (body_number bytes) 0) then refuses (body_number bytes)
    else if ltb room (packed_bytes bytes) then refuses 6
    else accepts (packed_bytes bytes ∷ [])
