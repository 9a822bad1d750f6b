-- A message of a packet comes to C as `sigma_read` gives it of its part alone: the same number, the same words.
use Rattle.std.specs.Prelude.{Ok, Some}
use Prim.Native.Nat.{ℕ, ◌-◌}
use native.Mathlib.Omega.{arith}
use mathlib.Core.Path.{◌≡◌}
use mathlib.Core.List.{List}
use lib.ListN.{length}
use Rattle.wire.specs.Calls.{read_of}
use Rattle.wire.specs.declared.Message.{Message}
use Rattle.packet.specs.Reading.{next_of, part_of}
use Rattle.packet.proofs.Shown.{shows}
use Rattle.capi.specs.Calls.{read_code, read_words}
use Rattle.capi_packet.specs.Calls.{next_code, next_words}

module _ (s : List ℕ) (at : ℕ) (m : Message) (next : ℕ) (g : next_of s at ≡ Ok (Some (m, next))) (ws : List ℕ) where
  its-bytes : next - at ≡ length (part_of s at)
  its-bytes = omega (arith, (shows s at m next g).long)

  pub next_as_read : (next_code (next_of s at) (length ws) ≡ read_code (read_of (part_of s at)) (length ws))
      × (next_words (next_of s at) at ws ≡ read_words (read_of (part_of s at)) ws)
  next_as_read = let r = (shows s at m next g).read in (rw (g, r), rw (g, r, its-bytes))
