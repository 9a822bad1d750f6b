-- Packing messages that stand one after another: the total is put before their bytes.
use Rattle.ids.specs.declared.Refusal.{Refusal}
use Rattle.std.specs.Prelude.{ℕ, ◌+◌, List, [], ◌∷◌, ◌++◌, ltb, length, if◌then◌else◌, Ok, Err, Result}
use Rattle.std.proofs.lemmas.List.Edits.{sets}
use Rattle.ids.specs.declared.Refusal.TheVariants.{PacketMalformed, RoomShort}
use Rattle.wire.specs.Bytes.{little_endian}
use Rattle.wire.specs.Format.{bytes_of}
use Rattle.wire.specs.declared.Message.{Message}
use Rattle.packet.specs.Packet.{total_bytes, max_total, Piece, Contents, refused, carries, contents_of}

abbrev pub packed_bytes : List ℕ → ℕ
packed_bytes bytes = total_bytes + length bytes

-- THE PACKET of these bytes
unfoldable pub packed : List ℕ → List ℕ
packed bytes = little_endian total_bytes (packed_bytes bytes) ++ bytes

-- refusal 6 comes last
abbrev pub by_room : ℕ → ℕ → Result ℕ Refusal
by_room size room = if ltb room size then Err RoomShort else Ok size

abbrev pub pack_in : Contents → ℕ → ℕ → Result ℕ Refusal
pack_in (refused e) size room = Err e
pack_in (carries ps) size room = by_room size room

-- 22 where two bytes can't say the total, then as the reader refuses, then 6
unfoldable pub pack_of : List ℕ → ℕ → Result ℕ Refusal
pack_of bytes room =
    if ltb max_total (packed_bytes bytes) then Err PacketMalformed else pack_in (contents_of bytes) (packed_bytes bytes) room

-- the buffer afterwards: the packet from its start, the bytes behind it as found; after a refusal all as found
abbrev pub packed_into : Result ℕ Refusal → List ℕ → List ℕ → List ℕ
packed_into (Err e) bytes buffer = buffer
packed_into (Ok n) bytes buffer = sets buffer 0 (packed bytes)

unfoldable pub buffer_after : List ℕ → List ℕ → List ℕ
buffer_after bytes buffer = packed_into (pack_of bytes (length buffer)) bytes buffer

-- messages, each with its bytes
abbrev pub pieces_of : List Message → List Piece
pieces_of [] = []
pieces_of (m ∷ ms) = record { message = m; part = bytes_of m } ∷ pieces_of ms
