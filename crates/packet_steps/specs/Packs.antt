-- When the bytes that a step wrote can be packed.
use Rattle.std.specs.Prelude.{ℕ, ◌+◌, ◌≡◌, List, ◌++◌, take}
use Rattle.wire.specs.Format.{size_of_all}
use Rattle.wire.specs.declared.Message.{Message}
use Rattle.packet.specs.Packet.{total_bytes, carries, packet_of}
use Rattle.packet.specs.Packing.{pieces_of, packed, by_room, pack_of}

-- These messages stand at the start of the buffer: their bytes, packed, are refused for want of room alone, and the packet is read as them, whatever
-- stands behind it.
pub record Packs (buffer : List ℕ) (ms : List Message) : Type 0 where
  pub packs : (room : ℕ) → pack_of (take (size_of_all ms) buffer) room ≡ by_room (total_bytes + size_of_all ms) room
  pub arrives : (t : List ℕ) → packet_of (packed (take (size_of_all ms) buffer) ++ t) ≡ carries (pieces_of ms)
