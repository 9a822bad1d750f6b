-- What is packed is read as the messages that were packed, and an accepted packet's messages, packed again, are the same bytes.
use Rattle.std.specs.Prelude.{Ok, Err, Result}
use Prim.Native.Nat.{ℕ, ◌+◌, ◌≤◌}
use native.Mathlib.Omega.{arith}
use mathlib.Core.Path.{◌≡◌, refl, sym, ap, ◌∙◌}
use mathlib.Core.Bool.{true}
use mathlib.Core.List.{List, [], ◌∷◌, ◌++◌, append-nil}
use lib.Dec.{ltb}
use lib.ListN.{length, take, drop, length-append, length-drop, take-append-drop}
use lib.Seq.{sets, sets-eq, take_at, take-length, take-take, length-take-le, drop-append_seam}
use borrow.Author.Tests.{le-ltb, ltb-false}
use Rattle.ids.specs.Limits.{max_servers}
use Rattle.ids.specs.Lists.{every}
use Rattle.ids.specs.declared.Refusal.{Refusal}
use Rattle.ids.specs.declared.Refusal.TheVariants.{PacketMalformed, RoomShort}
use Rattle.ids.proofs.Choice.{both, passed}
use Rattle.wire.specs.Bytes.{little_endian, number}
use Rattle.wire.specs.Format.{valid, bytes_of, bytes_of_all, size_of_all}
use Rattle.wire.specs.Calls.{read_of}
use Rattle.wire.specs.declared.Message.{Message}
use Rattle.wire.proofs.BytesLaws.{AllBytes, none, more, bytes_drop, number-little_endian, little_endian-number}
use Rattle.wire.proofs.FormatLaws.{length-bytes_of}
use Rattle.wire.proofs.RoundTrip.{written_is_read, read_is_written}
use Rattle.wire.proofs.Sequence.{length-bytes_of_all}
use Rattle.packet.specs.Packet.{total_bytes, max_total, Piece, Contents, refused, carries, contents_of, total_in, framed, up_to_total, body_of, packet_of, messages}
use Rattle.packet.specs.Packing.{pieces_of, packed_bytes, packed, by_room, pack_in, pack_of, buffer_after}
use Rattle.packet.specs.Parts.{Carries, done, next}
use Rattle.packet.proofs.Parts.{carried-all}
use Rattle.packet.proofs.TotalLaws.{is_framed, to_framed}
use Rattle.packet.proofs.Shown.{accepted-framed, accepted-carries}

-- a packet, whatever stands behind it, is read as its bytes are
module _ (bytes t : List ℕ) (short : packed_bytes bytes ≤ max_total) where
  abbrev head : List ℕ
  head = little_endian total_bytes (packed_bytes bytes)

  its-total : total_in (packed bytes ++ t) ≡ packed_bytes bytes
  unfolding total_in packed
  its-total = number-little_endian total_bytes (packed_bytes bytes) (omega arith)

  packed-length : length (packed bytes) ≡ packed_bytes bytes
  unfolding packed
  packed-length = length-append head bytes

  pub packed-framed : framed (packed bytes ++ t) ≡ true
  packed-framed =
      let l = length-append (packed bytes) t in
      to_framed (packed bytes ++ t) (record {
        two = omega (arith, packed-length);
        least = omega (arith, its-total);
        within = omega (arith, its-total, packed-length);
      })

  its_body : body_of (packed bytes ++ t) ≡ bytes
  unfolding packed
  its_body = rw (its-total, take_at (packed bytes) t (packed_bytes bytes) packed-length) (drop-append_seam head bytes)

  pub packed_is_read : packet_of (packed bytes ++ t) ≡ contents_of bytes
  unfolding packet_of
  packed_is_read = rw (packed-framed, its_body)

-- what the call leaves behind
module _ (bytes o : List ℕ) (n : ℕ) (written : pack_of bytes (length o) ≡ Ok n) where
  refused_not_written : (x : Refusal) → ◌≡◌ {A = Result ℕ Refusal} (Err x) (Ok n) → ⊥
  refused_not_written x h = let z : ◌≡◌ {A = ℕ} 0 1 = cc in omega arith

  by_contents : (c : Contents) → contents_of bytes ≡ c → pack_in c (packed_bytes bytes) (length o) ≡ Ok n
      → (packed_bytes bytes ≤ length o) × (ps : List Piece) × (contents_of bytes ≡ carries ps)
  by_contents (refused x) e h = absurd (refused_not_written x h)
  by_contents (carries ps) e h = (ltb-false _ _ (passed (ltb (length o) (packed_bytes bytes)) (refused_not_written RoomShort) h).0, ps, e)

  pub packed-fits : (packed_bytes bytes ≤ max_total) × (packed_bytes bytes ≤ length o) × (ps : List Piece) × (contents_of bytes ≡ carries ps)
  unfolding pack_of
  packed-fits =
      let (a, b) = passed (ltb max_total (packed_bytes bytes)) (refused_not_written PacketMalformed) written in
      let (c, ps, d) = by_contents (contents_of bytes) refl b in
      (ltb-false _ _ a, c, ps, d)

  -- the buffer after an accepted packing is read as the messages that were packed
  pub pack_is_read : packet_of (buffer_after bytes o) ≡ contents_of bytes
  unfolding buffer_after
  pack_is_read =
      let (a, b, ps, c) = packed-fits in
      let l = packed-length bytes [] a in
      let s : sets o 0 (packed bytes) ≡ packed bytes ++ drop (0 + length (packed bytes)) o = sets-eq (packed bytes) o 0 (omega arith) in
      rw (written, s) (packed_is_read bytes (drop (0 + length (packed bytes)) o) a)

pub messages_of : (ms : List Message) → messages (pieces_of ms) ≡ ms
unfolding messages
messages_of [] = refl
messages_of (m ∷ ms) = ap (λ l. m ∷ l) (messages_of ms)

read-bytes : (m : Message) → valid m ≡ true → read_of (bytes_of m) ≡ Ok (m, length (bytes_of m))
read-bytes m v = rw (append-nil (bytes_of m), ← length-bytes_of m) at (written_is_read m [] v)

carried-messages : (ms : List Message) → every valid ms ≡ true → Carries (bytes_of_all ms) (pieces_of ms)
unfolding bytes_of_all
carried-messages [] v = done
carried-messages (m ∷ ms) v = let (a, b) = both (valid m) (every valid ms) v in next (read-bytes m a) (carried-messages ms b)

-- messages in range, one after another, are read as themselves
pub messages-carried : (ms : List Message) → every valid ms ≡ true → contents_of (bytes_of_all ms) ≡ carries (pieces_of ms)
messages-carried ms v = carried-all (bytes_of_all ms) (pieces_of ms) (carried-messages ms v)

-- so they are packed wherever there is room for them, and read again
module _ (ms : List Message) (v : every valid ms ≡ true) (short : total_bytes + size_of_all ms ≤ max_total) where
  pub messages-packed : (room : ℕ) → pack_of (bytes_of_all ms) room ≡ by_room (total_bytes + size_of_all ms) room
  unfolding pack_of
  messages-packed room =
      let l = length-bytes_of_all ms in
      rw (messages-carried ms v, l, le-ltb max_total (total_bytes + size_of_all ms) short)

  pub packed_messages_read : (t : List ℕ) → packet_of (packed (bytes_of_all ms) ++ t) ≡ carries (pieces_of ms)
  packed_messages_read t = packed_is_read (bytes_of_all ms) t (omega (arith, length-bytes_of_all ms)) ∙ messages-carried ms v

-- the other way: what an accepted packet carries
bytes-front : (p s : List ℕ) → AllBytes (p ++ s) → AllBytes p
bytes-front [] s h = none
bytes-front (b ∷ p) s (more x h) = more x (bytes-front p s h)

bytes_take : (n : ℕ) (s : List ℕ) → AllBytes s → AllBytes (take n s)
bytes_take n s h = bytes-front (take n s) (drop n s) (rw (take-append-drop n s) h)

written-again : (s : List ℕ) (ps : List Piece) → Carries s ps → AllBytes s → bytes_of_all (messages ps) ≡ s
unfolding bytes_of_all messages
written-again whole all done h = refl
written-again whole all (next {m} {p} {s} {ps} r c) h =
    let a : bytes_of m ≡ p = (read_is_written max_servers p m (length p) (bytes-front p s h) r).2 ∙ take-length p in
    let b : AllBytes s = rw (drop-append_seam p s) at (bytes_drop (length p) h) in
    rw (a, written-again s ps c b)

-- a total is a number of two bytes
two-small : (s : List ℕ) → AllBytes s → number (take total_bytes s) ≤ max_total
two-small s none = omega arith
two-small s (more b none) = omega arith
two-small s (more b (more c h)) = omega arith

module _ (s : List ℕ) (ps : List Piece) (accepted : packet_of s ≡ carries ps) (bytes : AllBytes s) where
  its_frame : framed s ≡ true
  its_frame = (accepted-framed s ps accepted).0

  -- its messages' bytes are what stands behind the two bytes of its total
  pub read_is_written_again : bytes_of_all (messages ps) ≡ body_of s
  read_is_written_again = written-again (body_of s) ps (accepted-carries s ps accepted) (bytes_drop total_bytes (bytes_take (total_in s) s bytes))

  pub body_packed : packed (body_of s) ≡ up_to_total s
  unfolding packed total_in
  body_packed =
      let g = is_framed s its_frame in
      let l : length (up_to_total s) ≡ total_in s = length-take-le (total_in s) s g.within in
      let n : packed_bytes (body_of s) ≡ total_in s = omega (arith, length-drop total_bytes (up_to_total s), l, g.least) in
      let h : little_endian total_bytes (total_in s) ≡ take total_bytes (up_to_total s) =
      little_endian-number total_bytes bytes g.two ∙ sym (take-take total_bytes (total_in s) s g.least) in
      ap (λ k. little_endian total_bytes k ++ body_of s) n ∙ (ap (λ f. f ++ body_of s) h ∙ take-append-drop total_bytes (up_to_total s))

  -- and packed again they are the same bytes
  pub read_is_packed : packed (bytes_of_all (messages ps)) ≡ up_to_total s
  read_is_packed = ap packed read_is_written_again ∙ body_packed

  -- at the call: they are packed wherever there is room for them, and what is written is the packet
  its-bytes : packed_bytes (bytes_of_all (messages ps)) ≡ total_in s
  its-bytes =
      let g = is_framed s its_frame in
      let l : length (up_to_total s) ≡ total_in s = length-take-le (total_in s) s g.within in
      omega (arith, ap length read_is_written_again, length-drop total_bytes (up_to_total s), l, g.least)

  two_bytes : total_in s ≤ max_total
  unfolding total_in
  two_bytes = two-small s bytes

  pub packs-again : (room : ℕ) → pack_of (bytes_of_all (messages ps)) room ≡ by_room (total_in s) room
  unfolding pack_of
  packs-again room =
      let c : contents_of (bytes_of_all (messages ps)) ≡ carries ps = ap contents_of read_is_written_again ∙ (accepted-framed s ps accepted).1 in
      rw (its-bytes, le-ltb max_total (total_in s) two_bytes, c)

  pub packed-again : (o : List ℕ) → total_in s ≤ length o → buffer_after (bytes_of_all (messages ps)) o ≡ up_to_total s ++ drop (total_in s) o
  unfolding buffer_after
  packed-again o h =
      let g = is_framed s its_frame in
      let l : length (up_to_total s) ≡ total_in s = length-take-le (total_in s) s g.within in
      let w : pack_of (bytes_of_all (messages ps)) (length o) ≡ Ok (total_in s) = packs-again (length o) ∙ rw (le-ltb (length o) (total_in s) h) in
      let z : 0 + length (up_to_total s) ≡ total_in s = omega arith in
      rw (w, read_is_packed) (rw z at (sets-eq (up_to_total s) o 0 (omega arith)))
