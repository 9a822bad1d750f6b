-- Bytes behind a packet are not looked at: with any others there it is read as the same, at every place.
use Prim.Native.Nat.{ℕ}
use native.Mathlib.Omega.{arith}
use mathlib.Core.Path.{◌≡◌, ap, ◌∙◌}
use mathlib.Core.Bool.{true}
use mathlib.Core.List.{List, ◌++◌}
use lib.ListN.{length, take, drop, length-append}
use lib.Seq.{take-append-le, take-take, take_at, length-take-le}
use Rattle.wire.specs.Bytes.{number}
use Rattle.packet.specs.Packet.{total_bytes, total_in, framed, up_to_total, packet_of, contents_of, pieces}
use Rattle.packet.specs.Reading.{next_in, next_of, part_of, find_in, part_found}
use Rattle.packet.proofs.TotalLaws.{is_framed, to_framed}

module _ (s t : List ℕ) (f : framed s ≡ true) where
  abbrev other : List ℕ
  other = up_to_total s ++ t

  its-length : length (up_to_total s) ≡ total_in s
  its-length = length-take-le (total_in s) s (is_framed s f).within

  same_total : total_in other ≡ total_in s
  unfolding total_in
  same_total =
      let g = is_framed s f in
      let a : take total_bytes other ≡ take total_bytes (up_to_total s) = take-append-le total_bytes (up_to_total s) t (omega (arith, its-length, g.least)) in
      ap number (a ∙ take-take total_bytes (total_in s) s g.least)

  same_bytes : up_to_total other ≡ up_to_total s
  same_bytes = rw same_total (take_at (up_to_total s) t (total_in s) its-length)

  pub behind-framed : framed other ≡ true
  behind-framed =
      let g = is_framed s f in
      let l = length-append (up_to_total s) t in
      to_framed other (record {
        two = omega (arith, its-length, g.least);
        least = omega (arith, same_total, g.least);
        within = omega (arith, same_total, its-length);
      })

  pub packet-behind : packet_of other ≡ packet_of s
  unfolding packet_of
  packet-behind = rw (behind-framed, f) (ap (λ b. contents_of (drop total_bytes b)) same_bytes)

  pub next-behind : (at : ℕ) → next_of other at ≡ next_of s at
  unfolding next_of
  next-behind at = ap (λ c. next_in c at) packet-behind

  pub part-behind : (at : ℕ) → part_of other at ≡ part_of s at
  unfolding part_of
  part-behind at = ap (λ c. part_found (find_in total_bytes (pieces c) at)) packet-behind
