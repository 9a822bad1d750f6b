-- The answers in document 02's numbers: each definition of an answer, said in numbers, is in the order of the refusals.
use Rattle.ids.specs.declared.Refusal.{Refusal}
use Rattle.wire.specs.declared.Message.{Message}
use Prim.Native.Nat.{ℕ}
use mathlib.Core.Path.{◌≡◌, refl, sym, ap, ◌∙◌}
use mathlib.Core.Bool.{true, false, not}
use mathlib.Core.List.{List, [], ◌∷◌}
use mathlib.Core.Logic.{⊎_elim}
use lib.Dec.{eqb, ltb}
use lib.ListN.{length}
use Rattle.ids.specs.Choice.{maybe}
use Rattle.std.specs.Prelude.{if◌then◌else◌, Ok, Err, Result, Some, None, Option}
use Rattle.ids.specs.Refusals.{code, Says, accepts, refuses}
use Rattle.ids.specs.declared.Refusal.TheVariants.{PacketMalformed, RoomShort}
use Rattle.ids.proofs.Choice.{of_choice, decided}
use Rattle.ids.proofs.Codes.{some_number}
use Rattle.wire.specs.Calls.{read_of}
use Rattle.wire.specs.Says.{parsed_says, read_says, written_says}
use Rattle.wire.proofs.SaysLaws.{read-said}
use Rattle.packet.specs.Packet.{total_bytes, max_total, cut, Contents, refused, carries, in_front, read_parts, contents_of, framed, body_of, packet_of}
use Rattle.packet.specs.Reading.{Found, starts, ends, nowhere, find_in, next_found, next_in, next_of}
use Rattle.packet.specs.Packing.{packed_bytes, pack_in, pack_of, buffer_after}
use Rattle.packet.specs.Says.{next_says, first_bad, body_number, found_says, packet_says, pack_says}

-- the number of what is carried: 0 where it is accepted
abbrev number_of : Contents → ℕ
number_of (refused e) = code e
number_of (carries ps) = 0

read_number : (p : List ℕ) → (read_says p).number ≡ (parsed_says (read_of p)).number
read_number p = ap (λ (s : Says ℕ). s.number) (sym (read-said p (read_of p) refl).1)

front-number : (p : List ℕ) (q : Result (Message × ℕ) Refusal) (rest : Contents)
    → number_of (in_front p q rest) ≡ (if eqb (parsed_says q).number 0 then number_of rest else (parsed_says q).number)
front-number p (Err e) rest = rw (some_number e)
front-number p (Ok (m, n)) (refused e) = refl
front-number p (Ok (m, n)) (carries ps) = refl

parts-number : (ps : List (List ℕ)) → number_of (read_parts ps) ≡ first_bad ps
unfolding read_parts first_bad
parts-number [] = refl
parts-number (p ∷ ps) = rw (read_number p, ← parts-number ps) (front-number p (read_of p) (read_parts ps))

cut-number : (o : Option (List (List ℕ))) → number_of (maybe o (refused PacketMalformed) read_parts) ≡ maybe o 22 first_bad
cut-number None = refl
cut-number (Some ps) = parts-number ps

body_number_lem : (s : List ℕ) → number_of (contents_of s) ≡ body_number s
unfolding contents_of body_number
body_number_lem s = cut-number (cut s)

found-row : (at : ℕ) (f : Found) → next_says (next_found at f) ≡ found_says at f
found-row at (starts p) = refl
found-row at ends = refl
found-row at nowhere = refl

module _ (s : List ℕ) (at : ℕ) where
  -- in the order of the refusals: the total, then what stands behind it, then the place
  by_contents : framed s ≡ true → packet_of s ≡ contents_of (body_of s) → (c : Contents) → contents_of (body_of s) ≡ c → next_says (next_in c at) ≡ packet_says s at
  unfolding packet_says
  by_contents f p (refused e) h = let n : body_number (body_of s) ≡ code e = sym (body_number_lem (body_of s)) ∙ ap number_of h in rw (f, n, some_number e)
  by_contents f p (carries ps) h =
      let n : body_number (body_of s) ≡ 0 = sym (body_number_lem (body_of s)) ∙ ap number_of h in
      rw (f, n, p, h) (found-row at (find_in total_bytes ps at))

  with_frame : framed s ≡ true → packet_of s ≡ contents_of (body_of s)
  unfolding packet_of
  with_frame f = rw f

  without_frame : framed s ≡ false → next_says (next_in (packet_of s) at) ≡ packet_says s at
  unfolding packet_of packet_says
  without_frame f = rw f refl

  next_row : next_says (next_of s at) ≡ packet_says s at
  unfolding next_of
  next_row =
      ⊎_elim
      (λ (f : framed s ≡ true). ap (λ c. next_says (next_in c at)) (with_frame f) ∙ by_contents f (with_frame f) (contents_of (body_of s)) refl)
      without_frame (decided (framed s))

  pub next-said : (r : Result (Option (Message × ℕ)) Refusal) → r ≡ next_of s at → (r ≡ next_of s at) × (next_says r ≡ packet_says s at)
  next-said r e = (e, ap next_says e ∙ next_row)

-- packing
module _ (bytes : List ℕ) (room : ℕ) where
  pack_contents : (c : Contents) → contents_of bytes ≡ c
      → written_says (pack_in c (packed_bytes bytes) room)
      ≡ (if not (eqb (body_number bytes) 0) then refuses (body_number bytes)
      else if ltb room (packed_bytes bytes) then refuses 6
      else accepts (packed_bytes bytes ∷ []))
  pack_contents (refused e) h = let n : body_number bytes ≡ code e = sym (body_number_lem bytes) ∙ ap number_of h in rw (n, some_number e)
  pack_contents (carries ps) h =
      let n : body_number bytes ≡ 0 = sym (body_number_lem bytes) ∙ ap number_of h in
      rw n (of_choice written_says (ltb room (packed_bytes bytes)) (Err RoomShort) (Ok (packed_bytes bytes)) refl refl)

  pack_row : written_says (pack_of bytes room) ≡ pack_says bytes room
  unfolding pack_of pack_says
  pack_row =
      of_choice written_says (ltb max_total (packed_bytes bytes)) (Err PacketMalformed) (pack_in (contents_of bytes) (packed_bytes bytes) room) refl
      (pack_contents (contents_of bytes) refl)

pub pack_said : (bytes buffer : List ℕ) (r : Result ℕ Refusal) (l : List ℕ) → (r ≡ pack_of bytes (length buffer)) × (l ≡ buffer_after bytes buffer)
    → ((r ≡ pack_of bytes (length buffer)) × (l ≡ buffer_after bytes buffer)) × (written_says r ≡ pack_says bytes (length buffer))
pack_said bytes buffer r l e = (e, ap written_says e.0 ∙ pack_row bytes (length buffer))
