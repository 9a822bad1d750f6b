-- The numbers that come out of a packet are 22, 2, 3 and 5: a part has its header and is as long as its length field says, so that 1 and 4 cannot.
use Rattle.wire.specs.declared.Message.{Message}
use Prim.Native.Nat.{ℕ}
use native.Mathlib.Omega.{arith}
use mathlib.Core.Path.{◌≡◌, refl, subst}
use mathlib.Core.Bool.{Bool, true, false, not}
use mathlib.Core.List.{List}
use mathlib.Core.Logic.{◌⊎◌, inl, inr}
use lib.Dec.{eqb, ltb}
use lib.ListN.{length}
use borrow.Author.Tests.{ltb-true, eqb-true, not-false}
use Rattle.ids.specs.Choice.{maybe}
use Rattle.std.specs.Prelude.{if◌then◌else◌, Ok, Err, Result, Some, None, Option}
use Rattle.ids.specs.declared.Refusal.{Refusal}
use Rattle.ids.specs.declared.Refusal.TheVariants.{HeaderShort, KindUnknown, LengthWrong, MessageCut, NumberOutOfRange, RoomShort, PacketMalformed}
use Rattle.wire.specs.Format.{known, kind_in, length_in, length_of, fields_in, message_of, valid}
use Rattle.wire.specs.Calls.{read_of, read_up_to}
use Rattle.packet.specs.Packet.{total_bytes, max_total, cut, Contents, refused, carries, in_front, read_parts, contents_of, framed, body_of, packet_of, PacketRefusal, malformed, kind, wrong, range}
use Rattle.packet.specs.Parts.{Part, Cut, done, next}
use Rattle.packet.specs.Reading.{Found, starts, ends, nowhere, find_in, next_found, next_in, next_of}
use Rattle.packet.specs.Packing.{packed_bytes, pack_in, pack_of}
use Rattle.packet.proofs.Parts.{cut_only}

-- a choice that gave a refusal: the one of its first branch, if its test held, or one of the second
chosen : (b : Bool) (e x : Refusal) (y : Result (Message × ℕ) Refusal) → (b ≡ true → PacketRefusal e) → (b ≡ false → y ≡ Err x → PacketRefusal x)
    → (if b then Err e else y) ≡ Err x → PacketRefusal x
chosen true e x y f g h = let i : e ≡ x = cc in subst PacketRefusal i (f refl)
chosen false e x y f g h = g refl h

read_told : (p : List ℕ) → Part p → (x : Refusal) → read_of p ≡ Err x → PacketRefusal x
unfolding read_up_to
read_told p g x h =
    chosen (ltb (length p) 4) HeaderShort x _ (λ a. absurd (omega (arith, ltb-true (length p) 4 a, g.least)))
    (λ _. chosen (not (known (kind_in p))) KindUnknown x _ (λ _. kind)
    (λ _. chosen (not (eqb (length_in p) (length_of (kind_in p)))) LengthWrong x _ (λ _. wrong)
    (λ l. chosen (ltb (length p) (length_of (kind_in p))) MessageCut x _
    (λ c. absurd (omega (arith, ltb-true (length p) (length_of (kind_in p)) c, eqb-true (length_in p) (length_of (kind_in p)) (not-false _ l), g.is)))
    (λ _. chosen (not (valid (message_of (fields_in p)))) NumberOutOfRange x _ (λ _. range) (λ _ a. let z : ◌≡◌ {A = ℕ} 0 1 = cc in absurd (omega arith)))))) h

first-told : (p : List ℕ) (q : Result (Message × ℕ) Refusal) (rest : Contents) (x : Refusal) → (q ≡ Err x → PacketRefusal x) → (rest ≡ refused x → PacketRefusal x)
    → in_front p q rest ≡ refused x → PacketRefusal x
first-told p (Err e) rest x f g h = let i : e ≡ x = cc in f (rw i refl)
first-told p (Ok (m, n)) (refused e) x f g h = g h
first-told p (Ok (m, n)) (carries ps) x f g h = let z : ◌≡◌ {A = ℕ} 0 1 = cc in absurd (omega arith)

parts-told : (s : List ℕ) (parts : List (List ℕ)) → Cut s parts → (x : Refusal) → read_parts parts ≡ refused x → PacketRefusal x
unfolding read_parts
parts-told whole all done x h = let z : ◌≡◌ {A = ℕ} 0 1 = cc in absurd (omega arith)
parts-told whole all (next {p} {s} {ps} g c) x h = first-told p (read_of p) (read_parts ps) x (read_told p g x) (λ r. parts-told s ps c x r) h

cut-told : (s : List ℕ) (o : Option (List (List ℕ))) → cut s ≡ o → (x : Refusal) → maybe o (refused PacketMalformed) read_parts ≡ refused x → PacketRefusal x
cut-told s None e x h = let i : PacketMalformed ≡ x = cc in subst PacketRefusal i malformed
cut-told s (Some parts) e x h = parts-told s parts (cut_only s parts e) x h

pub contents_told : (s : List ℕ) (x : Refusal) → contents_of s ≡ refused x → PacketRefusal x
unfolding contents_of
contents_told s x h = cut-told s (cut s) refl x h

framed-told : (s : List ℕ) (b : Bool) (x : Refusal) → (if b then contents_of (body_of s) else refused PacketMalformed) ≡ refused x → PacketRefusal x
framed-told s true x h = contents_told (body_of s) x h
framed-told s false x h = let i : PacketMalformed ≡ x = cc in subst PacketRefusal i malformed

pub packet-told : (s : List ℕ) (x : Refusal) → packet_of s ≡ refused x → PacketRefusal x
unfolding packet_of
packet-told s x h = framed-told s (framed s) x h

-- the reader's refusals
found-told : (at : ℕ) (f : Found) (x : Refusal) → next_found at f ≡ Err x → PacketRefusal x
found-told at (starts p) x h = let z : ◌≡◌ {A = ℕ} 0 1 = cc in absurd (omega arith)
found-told at ends x h = let z : ◌≡◌ {A = ℕ} 0 1 = cc in absurd (omega arith)
found-told at nowhere x h = let i : PacketMalformed ≡ x = cc in subst PacketRefusal i malformed

module _ (s : List ℕ) (at : ℕ) (x : Refusal) where
  in_told : (c : Contents) → packet_of s ≡ c → next_in c at ≡ Err x → PacketRefusal x
  in_told (refused e) p h = let i : e ≡ x = cc in packet-told s x (rw i at p)
  in_told (carries ps) p h = found-told at (find_in total_bytes ps at) x h

  pub next-told : next_of s at ≡ Err x → PacketRefusal x
  unfolding next_of
  next-told h = in_told (packet_of s) refl h

-- packing's: the same, or 6
module _ (bytes : List ℕ) (room : ℕ) (x : Refusal) where
  room-told : (b : Bool) (n : ℕ) → (if b then Err RoomShort else Ok n) ≡ Err x → PacketRefusal x ⊎ (x ≡ RoomShort)
  room-told true n h = inr cc
  room-told false n h = let z : ◌≡◌ {A = ℕ} 0 1 = cc in absurd (omega arith)

  packed-told : (c : Contents) → contents_of bytes ≡ c → pack_in c (packed_bytes bytes) room ≡ Err x → PacketRefusal x ⊎ (x ≡ RoomShort)
  packed-told (refused e) p h = let i : e ≡ x = cc in inl (contents_told bytes x (rw i at p))
  packed-told (carries ps) p h = room-told (ltb room (packed_bytes bytes)) (packed_bytes bytes) h

  long-told : (b : Bool) → (if b then Err PacketMalformed else pack_in (contents_of bytes) (packed_bytes bytes) room) ≡ Err x
      → PacketRefusal x ⊎ (x ≡ RoomShort)
  long-told true h = let i : PacketMalformed ≡ x = cc in inl (subst PacketRefusal i malformed)
  long-told false h = packed-told (contents_of bytes) refl h

  pub pack_told : pack_of bytes room ≡ Err x → PacketRefusal x ⊎ (x ≡ RoomShort)
  unfolding pack_of
  pack_told h = long-told (ltb max_total (packed_bytes bytes)) h
