-- What packing answers and leaves, in each case; and the bytes that are laid down so far.
use Rattle.std.specs.Prelude.{Ok, Err}
use Prim.Native.Nat.{ℕ, ◌+◌, ◌-◌, ◌<◌, ◌≤◌}
use native.Mathlib.Numerals.{add-one}
use native.Mathlib.Omega.{arith}
use mathlib.Core.Path.{◌≡◌, refl, sym, ap, ◌∙◌}
use mathlib.Core.List.{List, [], ◌∷◌, ◌++◌}
use lib.ListN.{length, get_or, set, take, drop}
use lib.Seq.{sets, sets-eq, length-sets, take-suc, take_all, length-take-le}
use borrow.Rule.Slice.PartMut.{put_mid}
use borrow.Author.Tests.{lt-ltb, le-ltb}
use Rattle.ids.specs.declared.Refusal.{Refusal}
use Rattle.ids.specs.declared.Refusal.TheVariants.{PacketMalformed, RoomShort}
use Rattle.wire.specs.Bytes.{little_endian}
use Rattle.wire.proofs.BytesLaws.{stored_on, copied}
use Rattle.packet.specs.Packet.{total_bytes, max_total, contents_of}
use Rattle.packet.specs.Packing.{packed_bytes, packed, pack_of, buffer_after}
use Rattle.packet.specs.Inner.{judged}
use Rattle.packet.proofs.PlaceLaws.{good-carries, bad_refused}

-- what `put_packet` knows at its loop's head: behind the total the bytes before place i are laid down
pub record Laying (o l bytes : List ℕ) (i : ℕ) : Type 0 where
  pub laid : l ≡ sets o total_bytes (take i bytes)

module _ (o bytes : List ℕ) where
  pub laying_start : Laying o o bytes 0
  laying_start = record { laid = refl }

  module _ (l : List ℕ) (i : ℕ) (inv : Laying o l bytes i) where
    pub laying_more : i < length bytes → Laying o (set l (total_bytes + i) (get_or bytes i 0)) bytes (i + 1)
    laying_more h =
        let k : total_bytes + i ≡ total_bytes + length (take i bytes) = ap (λ n. total_bytes + n) (sym (length-take-le i bytes (omega arith))) in
        record {
          laid =
              rw (add-one, take-suc bytes i 0 h)
              (stored_on o l (set l (total_bytes + i) (get_or bytes i 0)) (take i bytes) (get_or bytes i 0 ∷ []) total_bytes (total_bytes + i) inv.laid refl k);
        }

    pub laying_done : length bytes ≤ i → l ≡ sets o total_bytes bytes
    laying_done h = inv.laid ∙ ap (sets o total_bytes) (take_all i bytes h)

-- the total's bytes are laid down, and the packet's behind them: one by one, or copied
module _ (o front bytes : List ℕ) (f : front ≡ little_endian total_bytes (packed_bytes bytes)) (room : packed_bytes bytes ≤ length o) where
  total_first : front ++ drop total_bytes o ≡ sets o 0 (little_endian total_bytes (packed_bytes bytes))
  total_first = rw f (sym (sets-eq (little_endian total_bytes (packed_bytes bytes)) o 0 (omega arith)))

  pub laid_behind : (l : List ℕ) → l ≡ sets (front ++ drop total_bytes o) total_bytes bytes → l ≡ sets o 0 (packed bytes)
  unfolding packed
  laid_behind l e =
      stored_on o (front ++ drop total_bytes o) l (little_endian total_bytes (packed_bytes bytes)) bytes 0 total_bytes total_first e refl

pub laid_packet : (o front ys bytes : List ℕ) (k : ℕ) → front ≡ little_endian total_bytes (packed_bytes bytes) → k ≡ length bytes → ys ≡ bytes
    → packed_bytes bytes ≤ length o → put_mid total_bytes k (front ++ drop total_bytes o) ys ≡ sets o 0 (packed bytes)
laid_packet o front ys bytes k f n p room =
    let a : List ℕ = front ++ drop total_bytes o in
    let size : length a ≡ length o = rw (total_first o front bytes f room) (length-sets o 0 (little_endian total_bytes (packed_bytes bytes))) in
    laid_behind o front bytes f room (put_mid total_bytes k a ys) (copied a ys bytes total_bytes k n p (omega (arith, size)))

-- what `pack` answers and leaves
module _ (bytes o : List ℕ) where
  pub pack_long : max_total - total_bytes < length bytes → (Err PacketMalformed ≡ pack_of bytes (length o)) × (o ≡ buffer_after bytes o)
  unfolding pack_of buffer_after
  pack_long h = let t = lt-ltb max_total (packed_bytes bytes) (omega arith) in (rw t, rw t)

  module _ (short : length bytes ≤ max_total - total_bytes) where
    pub pack_refused : (x : Refusal) → Err x ≡ judged (contents_of bytes) → (Err x ≡ pack_of bytes (length o)) × (o ≡ buffer_after bytes o)
    unfolding pack_of buffer_after
    pack_refused x h =
        let t = le-ltb max_total (packed_bytes bytes) (omega arith) in
        let b = bad_refused (contents_of bytes) x (sym h) in
        (rw (t, b), rw (t, b))

    module _ (good : Ok tt ≡ judged (contents_of bytes)) (total : ℕ) (its : total ≡ packed_bytes bytes) where
      pub pack_room : length o < total → (Err RoomShort ≡ pack_of bytes (length o)) × (o ≡ buffer_after bytes o)
      unfolding pack_of buffer_after
      pack_room h =
          let t = le-ltb max_total (packed_bytes bytes) (omega arith) in
          let g = good-carries (contents_of bytes) (sym good) in
          let r = lt-ltb (length o) (packed_bytes bytes) (omega arith) in
          (rw (t, g, r), rw (t, g, r))

      pub pack_done : total ≤ length o → (l : List ℕ) → l ≡ sets o 0 (packed bytes) → (Ok total ≡ pack_of bytes (length o)) × (l ≡ buffer_after bytes o)
      unfolding pack_of buffer_after
      pack_done h l e =
          let t = le-ltb max_total (packed_bytes bytes) (omega arith) in
          let g = good-carries (contents_of bytes) (sym good) in
          let r = le-ltb (length o) (packed_bytes bytes) (omega arith) in
          (rw (t, g, r, its), rw (t, g, r) e)
