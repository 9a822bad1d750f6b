-- What is at a place of an accepted packet, by where the search for it ended; and what the next message is, from the packet's judgement.
use Rattle.std.specs.Prelude.{Ok, Err, Result, Some, None, Option}
use Prim.Native.Nat.{ℕ, ◌+◌, ◌-◌, ◌<◌, ◌≤◌}
use native.Mathlib.Omega.{arith}
use mathlib.Core.Path.{◌≡◌, refl, sym, ap, ◌∙◌}
use mathlib.Core.List.{List, [], ◌∷◌}
use lib.ListN.{length, take, drop, length-drop, length-append}
use lib.Seq.{length-take-le}
use borrow.Author.Tests.{eq-eqb, ne_eqb}
use Rattle.ids.specs.declared.Refusal.{Refusal}
use Rattle.ids.specs.declared.Refusal.TheVariants.{PacketMalformed}
use Rattle.wire.specs.Calls.{read_of}
use Rattle.wire.specs.declared.Message.{Message}
use Rattle.packet.specs.Packet.{total_bytes, Piece, Contents, refused, carries, contents_of, packet_of, pieces, joined}
use Rattle.packet.specs.Reading.{Found, starts, ends, nowhere, find_in, next_found, next_in, next_of}
use Rattle.packet.specs.Inner.{size_in, judged, total_of, Reached}
use Rattle.packet.proofs.Parts.{carried_only, carried-joined}
use Rattle.packet.proofs.ContentsLaws.{contents_empty, First, its-first, its-list, here, lent-part, found_here}
use Rattle.packet.proofs.TotalLaws.{is_framed, total_zero, total_some}

-- in front of the first of them, and behind the last, nothing is found
pub found_before : (from : ℕ) (ps : List Piece) (at : ℕ) → at < from → find_in from ps at ≡ nowhere
unfolding find_in
found_before from [] at h = rw (ne_eqb at from (λ e. omega arith))
found_before from (p ∷ ps) at h = rw (ne_eqb at from (λ e. omega arith)) (found_before (from + length p.part) ps at (omega arith))

pub found_past : (from : ℕ) (ps : List Piece) (at : ℕ) → from + length (joined ps) < at → find_in from ps at ≡ nowhere
unfolding find_in joined
found_past from [] at h = rw (ne_eqb at from (λ e. omega arith))
found_past from (p ∷ ps) at h =
    rw (ne_eqb at from (λ e. omega arith)) (found_past (from + length p.part) ps at (omega (arith, length-append p.part (joined ps))))

-- accepted contents are their pieces
pub good-carries : (c : Contents) → judged c ≡ Ok tt → c ≡ carries (pieces c)
good-carries (refused x) h = let z : ◌≡◌ {A = ℕ} 0 1 = cc in absurd (omega arith)
good-carries (carries ps) h = refl

pub bad_refused : (c : Contents) (x : Refusal) → judged c ≡ Err x → c ≡ refused x
bad_refused (refused y) x h = let e : y ≡ x = cc in cc
bad_refused (carries ps) x h = let z : ◌≡◌ {A = ℕ} 0 1 = cc in absurd (omega arith)

-- what `message_at` answers: the place is behind the packet, or no message starts there; the packet ends there; a message starts there
module _ (s : List ℕ) (at : ℕ) where
  abbrev answer : Result (Option (Message × ℕ)) Refusal
  answer = next_found at (find_in total_bytes (pieces (contents_of (drop total_bytes s))) at)

  pub place_past : total_bytes ≤ length s → judged (contents_of (drop total_bytes s)) ≡ Ok tt → length s < at → Err PacketMalformed ≡ answer
  place_past two good h =
      let b : List ℕ = drop total_bytes s in
      let j : joined (pieces (contents_of b)) ≡ b =
      carried-joined b (pieces (contents_of b)) (carried_only b (pieces (contents_of b)) (good-carries (contents_of b) good)) in
      let l : length (joined (pieces (contents_of b))) ≡ length b = ap length j in
      sym (ap (next_found at) (found_past total_bytes (pieces (contents_of b)) at (omega (arith, l, length-drop total_bytes s))))

  module _ (place : ℕ) (r : Reached s at place) where
    to_answer : (f : Found) → find_in place (pieces (contents_of (drop place s))) at ≡ f → next_found at f ≡ answer
    to_answer f e = ap (next_found at) (sym e ∙ r.found)

    pub place-between : at ≤ place → (place ≡ at → ⊥) → Err PacketMalformed ≡ answer
    place-between h n = to_answer nowhere (found_before place (pieces (contents_of (drop place s))) at (omega (arith, n)))

    module _ (there : place ≡ at) where
      pub place_end : place ≡ length s → Ok None ≡ answer
      unfolding find_in
      place_end e =
          to_answer ends (rw (contents_empty (drop place s) (omega (arith, length-drop place s)), eq-eqb at place (sym there)))

      -- a message starts there
      module _ (size : ℕ) (h : place < length s) (e : size ≡ size_in (drop place s)) where
        abbrev its-message : First (take size (drop place s)) (read_of (take size (drop place s))) (contents_of (drop (place + size) s))
        its-message = its-first s at place size r h e

        its-answer : Ok (Some (its-message.message, place + size)) ≡ answer
        its-answer =
            let l : at + length (take size (drop place s)) ≡ place + size = omega (arith, (here s at place size r h e).long) in
            let p : Piece = record { message = its-message.message; part = take size (drop place s) } in
            let rest : List Piece = pieces (contents_of (drop (place + size) s)) in
            let f : find_in place (pieces (contents_of (drop place s))) at ≡ starts p =
            ap (λ ps. find_in place ps at) (its-list s at place size r h e) ∙ found_here place p rest at (sym there) in
            rw l at (to_answer (starts p) f)

        module _ (q : Result (Message × ℕ) Refusal) (read : q ≡ read_of (take (place + size - place) (drop place s))) where
          read_here : q ≡ Ok (its-message.message, its-message.used)
          read_here = lent-part s place size q read ∙ its-message.read

          pub place-message : (m : Message) (n : ℕ) → q ≡ Ok (m, n) → Ok (Some (m, place + size)) ≡ answer
          place-message m n a =
              let g = read_here in
              let both : ◌≡◌ {A = Message × ℕ} (its-message.message, its-message.used) (m, n) = cc in
              rw (ap (λ (x : Message × ℕ). x.0) both) at its-answer

          pub place_bad : (x : Refusal) → q ≡ Err x → Err x ≡ answer
          place_bad x a = let g = read_here in let z : ◌≡◌ {A = ℕ} 0 1 = cc in absurd (omega arith)

-- what `next_at` answers, from the total and the judgement of what stands behind it
module _ (s : List ℕ) (at : ℕ) where
  pub next_frameless : (total : ℕ) → total ≡ total_of s → total ≡ 0 → Err PacketMalformed ≡ next_of s at
  unfolding next_of packet_of
  next_frameless total t z = rw (total_zero s (sym z ∙ t))

  module _ (total : ℕ) (t : total ≡ total_of s) (n : total ≡ 0 → ⊥) where
    -- the packet up to its total, as the code lends it
    abbrev whole : List ℕ
    whole = take (total - 0) s

    is_whole : whole ≡ take total s
    is_whole = let z : total - 0 ≡ total = omega arith in rw z

    pub its-length : (total_bytes ≤ total) × (total ≤ length s) × (length whole ≡ total)
    its-length =
        let (f, i) = total_some s total t n in
        let g = is_framed s f in
        (omega (arith, i, g.least), omega (arith, i, g.within), ap length is_whole ∙ length-take-le total s (omega (arith, i, g.within)))

    its-packet : packet_of s ≡ contents_of (drop total_bytes whole)
    unfolding packet_of
    its-packet = let (f, i) = total_some s total t n in rw (is_whole, f, i)

    pub next-refused : (x : Refusal) → Err x ≡ judged (contents_of (drop total_bytes whole)) → Err x ≡ next_of s at
    unfolding next_of
    next-refused x h = rw (its-packet, bad_refused (contents_of (drop total_bytes whole)) x (sym h))

    module _ (good : Ok tt ≡ judged (contents_of (drop total_bytes whole))) where
      pub next-carried : (total_bytes ≤ length whole) × (judged (contents_of (drop total_bytes whole)) ≡ Ok tt)
      next-carried = (omega (arith, its-length.0, its-length.2), sym good)

      pub next-found : (r : Result (Option (Message × ℕ)) Refusal) → r ≡ next_found at (find_in total_bytes (pieces (contents_of (drop total_bytes whole))) at) → r ≡ next_of s at
      unfolding next_of
      next-found r h = h ∙ sym (ap (λ c. next_in c at) (its-packet ∙ good-carries (contents_of (drop total_bytes whole)) (sym good)))
