-- Reading one message of a packet, at a place: the whole packet is judged first, then the place.
use Rattle.ids.specs.declared.Refusal.{Refusal}
use Rattle.std.specs.Prelude.{ℕ, ◌+◌, ◌≡◌, List, [], ◌∷◌, eqb, length, if◌then◌else◌, Ok, Err, Result, Some, None, Option}
use Rattle.ids.specs.declared.Refusal.TheVariants.{PacketMalformed}
use Rattle.wire.specs.declared.Message.{Message}
use Rattle.packet.specs.Packet.{total_bytes, Piece, Contents, refused, carries, packet_of, pieces}

-- what is at a place: a message starts there, the packet ends there, or neither
pub data Found : Type 0 where
  starts : Piece → Found
  ends : Found
  nowhere : Found

-- what is at the place `at`, where the pieces stand one after another from the place `from` on
unfoldable pub find_in : ℕ → List Piece → ℕ → Found
find_in from [] at = if eqb at from then ends else nowhere
find_in from (p ∷ ps) at = if eqb at from then starts p else find_in (from + length p.part) ps at

-- of an accepted packet; places are counted in it
abbrev pub found_in : List ℕ → ℕ → Found
found_in s at = find_in total_bytes (pieces (packet_of s)) at

-- a message comes with the place behind it
abbrev pub next_found : ℕ → Found → Result (Option (Message × ℕ)) Refusal
next_found at (starts p) = Ok (Some (p.message, at + length p.part))
next_found at ends = Ok None
next_found at nowhere = Err PacketMalformed

abbrev pub next_in : Contents → ℕ → Result (Option (Message × ℕ)) Refusal
next_in (refused e) at = Err e
next_in (carries ps) at = next_found at (find_in total_bytes ps at)

-- THE NEXT MESSAGE: first the packet's own refusal, last 22 for the place
unfoldable pub next_of : List ℕ → ℕ → Result (Option (Message × ℕ)) Refusal
next_of s at = next_in (packet_of s) at

-- the part of the packet that it came from: nothing where no message is given
abbrev pub part_found : Found → List ℕ
part_found (starts p) = p.part
part_found ends = []
part_found nowhere = []

unfoldable pub part_of : List ℕ → ℕ → List ℕ
part_of s at = part_found (found_in s at)

-- THE CALLS of a reader from the place `at` on: a message each, with its part, until the packet's end
pub data ReadFrom (s : List ℕ) : ℕ → List Piece → Type 0 where
  ended : {at : ℕ} → next_of s at ≡ Ok None → ReadFrom s at []
  gave : {at next : ℕ} {m : Message} {ps : List Piece} → next_of s at ≡ Ok (Some (m, next)) → ReadFrom s next ps
      → ReadFrom s at (record { message = m; part = part_of s at } ∷ ps)
