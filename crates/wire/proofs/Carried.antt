-- The round trips at the calls: what `write` leaves in a buffer `read` accepts as the same message, and what `read` accepted `write` lays down again.
use Rattle.std.specs.Prelude.{Ok, Err}
use Prim.Native.Nat.{ℕ, ◌+◌, ◌≤◌}
use native.Mathlib.Omega.{arith}
use mathlib.Core.Path.{◌≡◌}
use mathlib.Core.Bool.{true, not}
use mathlib.Core.List.{List, ◌++◌}
use lib.Dec.{ltb}
use lib.ListN.{length, take, drop}
use lib.Seq.{sets-eq}
use borrow.Author.Tests.{le-leb, ltb-false, not-false}
use Rattle.ids.specs.Limits.{max_servers}
use Rattle.ids.specs.declared.Refusal.{Refusal}
use Rattle.ids.specs.declared.Refusal.TheVariants.{NumberOutOfRange, RoomShort}
use Rattle.ids.proofs.Choice.{passed}
use Rattle.wire.specs.Format.{bytes_of, size_of, valid}
use Rattle.wire.specs.Calls.{read_of, write_of, write_up_to, buffer_after, buffer_after_up_to}
use Rattle.wire.specs.declared.Message.{Message}
use Rattle.wire.proofs.BytesLaws.{AllBytes}
use Rattle.wire.proofs.FormatLaws.{length-bytes_of}
use Rattle.wire.proofs.RoundTrip.{written_is_read, read_is_written}

written_not_refused : (e : Refusal) (n : ℕ) → Err e ≡ Ok n → ⊥
written_not_refused e n h = let z : ◌≡◌ {A = ℕ} 0 1 = cc in omega arith

module _ (m : Message) (o : List ℕ) where
  -- a buffer with room, after the message is written: its bytes, and what stood behind them
  laid : valid m ≡ true → size_of m ≤ length o → buffer_after m o ≡ bytes_of m ++ drop (size_of m) o
  unfolding buffer_after_up_to
  laid v h =
      let b = length-bytes_of m in
      let e : 0 + length (bytes_of m) ≡ size_of m = omega arith in
      simp (v, le-leb _ _ h) (rw e at (sets-eq (bytes_of m) o 0 (omega arith)))

  pub written_buffer_is_read : (n : ℕ) → write_of m (length o) ≡ Ok n → read_of (buffer_after m o) ≡ Ok (m, n)
  unfolding write_up_to
  written_buffer_is_read n e =
      let r₁ = passed (not (valid m)) (written_not_refused NumberOutOfRange n) e in
      let r₂ = passed (ltb (length o) (size_of m)) (written_not_refused RoomShort n) r₁.1 in
      let v : valid m ≡ true = not-false _ r₁.0 in
      let z : size_of m ≡ n = cc r₂.1 in
      rw (laid v (ltb-false _ _ r₂.0), ← z) (written_is_read m (drop (size_of m) o) v)

  pub accepted_is_written_again : (s : List ℕ) (n : ℕ) → AllBytes s → read_of s ≡ Ok (m, n) → n ≤ length o → buffer_after m o ≡ take n s ++ drop n o
  accepted_is_written_again s n a e h =
      let (v, z, b) = read_is_written max_servers s m n a e in
      rw (laid v (omega arith), z, b)
