-- Definitions that only the contracts of private functions cite: no promise rests on them.
use Rattle.ids.specs.declared.Refusal.{Refusal}
use Rattle.std.specs.Prelude.{ℕ, ◌≤◌, ◌≡◌, Bool, true, false, List, length, drop, if◌then◌else◌, Ok, Err, Result, ⊤}
use Rattle.ids.specs.Choice.{maybe}
use Rattle.wire.specs.Format.{length_in}
use Rattle.packet.specs.Packet.{total_bytes, fits, cut, Contents, refused, carries, contents_of, pieces, framed, total_in}
use Rattle.packet.specs.Reading.{find_in}

-- the bytes of the part that s begins with, 0 for none
unfoldable pub size_in : List ℕ → ℕ
size_in s = if fits s then length_in s else 0

-- the walk ends where the bytes do
unfoldable pub walked : List ℕ → Bool
walked s = maybe (cut s) false (λ ps. true)

abbrev pub judged : Contents → Result ⊤ Refusal
judged (refused e) = Err e
judged (carries ps) = Ok tt

-- the total, 0 where it is none
unfoldable pub total_of : List ℕ → ℕ
total_of s = if framed s then total_in s else 0

-- from the place `from` on the bytes s carry messages, and what is at the place `at` can be found from there
pub record Reached (s : List ℕ) (at from : ℕ) : Type 0 where
  pub within : from ≤ length s
  pub carried : judged (contents_of (drop from s)) ≡ Ok tt
  pub found : find_in from (pieces (contents_of (drop from s))) at ≡ find_in total_bytes (pieces (contents_of (drop total_bytes s))) at
