-- The part that is shown is a stretch of the packet: from the place asked for to the place behind the message.
use Rattle.std.specs.Prelude.{Ok, Err, Result, Some, None, Option}
use Prim.Native.Nat.{ℕ, ◌+◌, ◌-◌, ◌≤◌}
use native.Mathlib.Omega.{arith}
use mathlib.Core.Path.{◌≡◌, refl, sym, ap, ◌∙◌}
use mathlib.Core.Bool.{true, false}
use mathlib.Core.List.{List, [], ◌∷◌, ◌++◌}
use mathlib.Core.Logic.{⊎_elim}
use lib.Dec.{eqb}
use lib.ListN.{length, take, drop, length-append, length-drop, take-append-drop}
use lib.Seq.{take-append_seam, drop-append-add, drop-append-le, take-append-le, drop-drop, length-take-le}
use borrow.Author.Tests.{eqb-true}
use Rattle.ids.specs.declared.Refusal.{Refusal}
use Rattle.ids.specs.declared.Refusal.TheVariants.{PacketMalformed}
use Rattle.ids.proofs.Choice.{decided}
use Rattle.wire.specs.Calls.{read_of}
use Rattle.wire.specs.declared.Message.{Message}
use Rattle.packet.specs.Packet.{total_bytes, Piece, Contents, refused, carries, contents_of, total_in, framed, up_to_total, body_of, packet_of, pieces, joined}
use Rattle.packet.specs.Reading.{Found, starts, ends, nowhere, find_in, next_found, next_in, next_of, part_found, part_of}
use Rattle.packet.specs.Parts.{Carries, done, next}
use Rattle.packet.proofs.Parts.{never, carried_only, carried-joined}
use Rattle.packet.proofs.TotalLaws.{is_framed}

-- a message found among those that stand from place `from` on: where its part stands in the parts joined
pub record Stands (from : ℕ) (ps : List Piece) (at : ℕ) (p : Piece) : Type 0 where
  pub behind : from ≤ at
  pub within : at + length p.part ≤ from + length (joined ps)
  pub there : take (length p.part) (drop (at - from) (joined ps)) ≡ p.part

ends_not_starts : (p : Piece) → ◌≡◌ {A = Found} ends (starts p) → ⊥
ends_not_starts p h = let z : ◌≡◌ {A = ℕ} 0 1 = cc in omega arith

nowhere_not_starts : (p : Piece) → ◌≡◌ {A = Found} nowhere (starts p) → ⊥
nowhere_not_starts p h = let z : ◌≡◌ {A = ℕ} 0 1 = cc in omega arith

pub stands : (from : ℕ) (ps : List Piece) (at : ℕ) (p : Piece) → find_in from ps at ≡ starts p → Stands from ps at p
unfolding find_in joined
stands from [] at p h =
    ⊎_elim (λ (e : eqb at from ≡ true). absurd (ends_not_starts p (rw e at h))) (λ (e : eqb at from ≡ false). absurd (nowhere_not_starts p (rw e at h)))
    (decided (eqb at from))
stands from (q ∷ ps) at p h =
    ⊎_elim
    (λ (e : eqb at from ≡ true).
    let g : starts q ≡ starts p = rw e at h in
    let i : q ≡ p = cc in
    let k : at ≡ from = eqb-true at from e in
    let z : at - from ≡ 0 = omega arith in
    let l = length-append q.part (joined ps) in
    rw (← i) (record { behind = omega arith; within = omega arith; there = rw z (take-append_seam q.part (joined ps)) }))
    (λ (e : eqb at from ≡ false).
    let r = stands (from + length q.part) ps at p (rw e at h) in
    let l = length-append q.part (joined ps) in
    let d : at - from ≡ length q.part + (at - (from + length q.part)) = omega (arith, r.behind) in
    record {
      behind = omega (arith, r.behind);
      within = omega (arith, r.within);
      there = rw (d, drop-append-add q.part (joined ps) (at - (from + length q.part))) r.there;
    })
    (decided (eqb at from))

-- a message that is found is what its part is read as, all of it
pub found-read : (s : List ℕ) (ps : List Piece) → Carries s ps → (from at : ℕ) (q : Piece) → find_in from ps at ≡ starts q
    → read_of q.part ≡ Ok (q.message, length q.part)
unfolding find_in
found-read whole all done from at q h =
    ⊎_elim (λ (e : eqb at from ≡ true). absurd (ends_not_starts q (rw e at h))) (λ (e : eqb at from ≡ false). absurd (nowhere_not_starts q (rw e at h)))
    (decided (eqb at from))
found-read whole all (next {m} {p} {s} {ps} r c) from at q h =
    ⊎_elim
    (λ (e : eqb at from ≡ true).
    let g : starts (record { message = m; part = p }) ≡ starts q = rw e at h in
    let i : record { message = m; part = p } ≡ q = cc in
    rw (← i) r)
    (λ (e : eqb at from ≡ false). found-read s ps c (from + length p) at q (rw e at h))
    (decided (eqb at from))

-- a stretch of the first bytes is a stretch of all
stretch : (s : List ℕ) (total at size : ℕ) → at + size ≤ total → total ≤ length s → take size (drop at (take total s)) ≡ take size (drop at s)
stretch s total at size h k =
    let l : length (take total s) ≡ total = length-take-le total s k in
    let d : drop at (take total s ++ drop total s) ≡ drop at (take total s) ++ drop total s = drop-append-le at (take total s) (drop total s) (omega arith) in
    let t : drop at s ≡ drop at (take total s) ++ drop total s = rw (take-append-drop total s) at d in
    rw t (sym (take-append-le size (drop at (take total s)) (drop total s) (omega (arith, length-drop at (take total s)))))

-- a packet that gives a message is accepted, whole; the part is the stretch from the place to the next one, and is read as the message
pub record Shows (s : List ℕ) (at : ℕ) (m : Message) (next : ℕ) : Type 0 where
  pub carried : List Piece
  pub accepted : packet_of s ≡ carries carried
  pub order : at ≤ next
  pub within : next ≤ total_in s
  pub lent : total_in s ≤ length s
  pub shown : take (next - at) (drop at s) ≡ part_of s at
  pub long : at + length (part_of s at) ≡ next
  pub read : read_of (part_of s at) ≡ Ok (m, length (part_of s at))
  pub found : find_in total_bytes carried at ≡ starts (record { message = m; part = part_of s at })

-- an accepted packet has its total, and its messages stand behind it
pub accepted-framed : (s : List ℕ) (ps : List Piece) → packet_of s ≡ carries ps → (framed s ≡ true) × (contents_of (body_of s) ≡ carries ps)
unfolding packet_of
accepted-framed s ps h =
    ⊎_elim (λ (f : framed s ≡ true). (f, rw f at h)) (λ (f : framed s ≡ false). absurd (never PacketMalformed ps (rw f at h)))
    (decided (framed s))

pub accepted-carries : (s : List ℕ) (ps : List Piece) → packet_of s ≡ carries ps → Carries (body_of s) ps
accepted-carries s ps h = carried_only (body_of s) ps (accepted-framed s ps h).1

module _ (s : List ℕ) (at : ℕ) (m : Message) (next : ℕ) where
  refused_not_given : (x : Refusal) → ◌≡◌ {A = Result (Option (Message × ℕ)) Refusal} (Err x) (Ok (Some (m, next))) → ⊥
  refused_not_given x h = let z : ◌≡◌ {A = ℕ} 0 1 = cc in omega arith

  end_not_given : ◌≡◌ {A = Result (Option (Message × ℕ)) Refusal} (Ok None) (Ok (Some (m, next))) → ⊥
  end_not_given h = let z : ◌≡◌ {A = ℕ} 0 1 = cc in omega arith

  module _ (ps : List Piece) (accepted : packet_of s ≡ carries ps) where
    by_found : (f : Found) → find_in total_bytes ps at ≡ f → next_found at f ≡ Ok (Some (m, next)) → Shows s at m next
    unfolding part_of
    by_found ends e h = absurd (end_not_given h)
    by_found nowhere e h = absurd (refused_not_given PacketMalformed h)
    by_found (starts p) e h =
        let both : ◌≡◌ {A = Message × ℕ} (p.message, at + length p.part) (m, next) = cc in
        let n : at + length p.part ≡ next = ap (λ (x : Message × ℕ). x.1) both in
        let i : p.message ≡ m = ap (λ (x : Message × ℕ). x.0) both in
        let c = accepted-carries s ps accepted in
        let g = is_framed s (accepted-framed s ps accepted).0 in
        let j : joined ps ≡ body_of s = carried-joined (body_of s) ps c in
        let l : length (joined ps) ≡ length (body_of s) = ap length j in
        let k : length (up_to_total s) ≡ total_in s = length-take-le (total_in s) s g.within in
        let w = stands total_bytes ps at p e in
        let part : part_of s at ≡ p.part = ap part_found (ap (λ c. find_in total_bytes (pieces c) at) accepted ∙ e) in
        let a : total_bytes + (at - total_bytes) ≡ at = omega (arith, w.behind) in
        let inside : at + length p.part ≤ total_in s = omega (arith, w.within, l, k, length-drop total_bytes (up_to_total s), g.least) in
        let d : drop (at - total_bytes) (body_of s) ≡ drop at (up_to_total s) = rw a at (drop-drop (at - total_bytes) total_bytes (up_to_total s)) in
        let t : take (length p.part) (drop at s) ≡ p.part =
        sym (stretch s (total_in s) at (length p.part) inside g.within) ∙ rw (j, d) at w.there in
        let z : next - at ≡ length p.part = omega arith in
        record {
          carried = ps;
          accepted = accepted;
          order = omega arith;
          within = omega arith;
          lent = g.within;
          shown = rw (part, z) t;
          long = rw part n;
          read = rw (part, ← i) (found-read (body_of s) ps c total_bytes at p e);
          found = rw (part, ← i) e;
        }

  by_contents : (c : Contents) → packet_of s ≡ c → next_in c at ≡ Ok (Some (m, next)) → Shows s at m next
  by_contents (refused x) e h = absurd (refused_not_given x h)
  by_contents (carries ps) e h = by_found ps e (find_in total_bytes ps at) refl h

  pub shows : next_of s at ≡ Ok (Some (m, next)) → Shows s at m next
  unfolding next_of
  shows h = by_contents (packet_of s) refl h

-- where no message is given, no part is shown
module _ (s : List ℕ) (at : ℕ) where
  none_found : (ps : List Piece) (f : Found) → find_in total_bytes ps at ≡ f → ((m : Message) (next : ℕ) → next_found at f ≡ Ok (Some (m, next)) → ⊥)
      → part_found (find_in total_bytes ps at) ≡ []
  none_found ps ends e n = rw e
  none_found ps nowhere e n = rw e
  none_found ps (starts p) e n = absurd (n p.message (at + length p.part) refl)

  empty-part : part_found (find_in total_bytes [] at) ≡ []
  unfolding find_in
  empty-part = ⊎_elim (λ (e : eqb at total_bytes ≡ true). rw e) (λ (e : eqb at total_bytes ≡ false). rw e) (decided (eqb at total_bytes))

  none-carried : (c : Contents) → packet_of s ≡ c → ((m : Message) (next : ℕ) → next_in c at ≡ Ok (Some (m, next)) → ⊥) → part_found (find_in total_bytes (pieces c) at) ≡ []
  none-carried (refused x) e n = empty-part
  none-carried (carries ps) e n = none_found ps (find_in total_bytes ps at) refl n

  shows-none : ((m : Message) (next : ℕ) → next_of s at ≡ Ok (Some (m, next)) → ⊥) → part_of s at ≡ []
  unfolding next_of part_of
  shows-none n = none-carried (packet_of s) refl n

  pub end_shows : (r : Result (Option (Message × ℕ)) Refusal) → r ≡ next_of s at → r ≡ Ok None → [] ≡ part_of s at
  end_shows r e h = sym (shows-none (λ m next g. end_not_given s at m next (sym h ∙ (e ∙ g))))

  pub refused-shows : (r : Result (Option (Message × ℕ)) Refusal) → r ≡ next_of s at → (x : Refusal) → r ≡ Err x → [] ≡ part_of s at
  refused-shows r e x h = sym (shows-none (λ m next g. refused_not_given s at m next x (sym h ∙ (e ∙ g))))

-- a packet that is refused gives nothing: at every place its refusal, and no part
module _ (s : List ℕ) (x : Refusal) (h : packet_of s ≡ refused x) (at : ℕ) where
  its_refusal : next_of s at ≡ Err x
  unfolding next_of
  its_refusal = rw h

  pub refused_gives_nothing : (next_of s at ≡ Err x) × (part_of s at ≡ [])
  refused_gives_nothing = (its_refusal, sym (refused-shows s at (next_of s at) refl x its_refusal))
