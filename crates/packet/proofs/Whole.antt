-- Reading a packet to its end gives its messages, all of them, in order, each with its part; a packet that is not accepted whole gives nothing.
use Rattle.std.specs.Prelude.{Ok, Err, Result, Some, None, Option}
use Prim.Native.Nat.{ℕ, ◌+◌, ◌<◌}
use native.Mathlib.Omega.{arith}
use mathlib.Core.Path.{◌≡◌, refl, sym, ap, ◌∙◌}
use mathlib.Core.List.{List, [], ◌∷◌, ◌++◌, append_assoc, append-nil}
use lib.ListN.{length, length-append}
use borrow.Author.Tests.{eq-eqb, ne_eqb}
use Rattle.ids.specs.declared.Refusal.{Refusal}
use Rattle.wire.specs.declared.Message.{Message}
use Rattle.packet.specs.Packet.{total_bytes, Piece, Contents, refused, carries, body_of, packet_of, joined}
use Rattle.packet.specs.Reading.{Found, starts, ends, find_in, next_found, next_in, next_of, part_found, part_of, ReadFrom, ended, gave}
use Rattle.packet.specs.Parts.{Carries, done, next}
use Rattle.packet.proofs.Parts.{read-part, carried-joined}
use Rattle.packet.proofs.Shown.{accepted-carries}

-- parts that have a byte at least
data Long : List Piece → Type 0 where
  none : Long []
  more : {p : Piece} {ps : List Piece} → 0 < length p.part → Long ps → Long (p ∷ ps)

long_snoc : (all : List Piece) (q : Piece) → Long all → 0 < length q.part → Long (all ++ q ∷ [])
long_snoc all q none h = more h none
long_snoc all q (more {p} {ps} k l) h = more k (long_snoc ps q l h)

joined_snoc : (ps : List Piece) (p : Piece) → length (joined (ps ++ p ∷ [])) ≡ length (joined ps) + length p.part
unfolding joined
joined_snoc [] p = ap length (append-nil p.part) ∙ omega arith
joined_snoc (q ∷ ps) p = omega (arith, length-append q.part (joined (ps ++ p ∷ [])), length-append q.part (joined ps), joined_snoc ps p)

-- behind the first messages the search goes on as if the packet began there
found_after : (from at : ℕ) (ps rest : List Piece) → Long ps → at ≡ from + length (joined ps) → find_in from (ps ++ rest) at ≡ find_in at rest at
unfolding find_in joined
found_after from at all rest none e = let z : from ≡ at = omega arith in rw z
found_after from at all rest (more {p} {ps} h l) e =
    let k = length-append p.part (joined ps) in
    rw (ne_eqb at from (λ c. omega arith)) (found_after (from + length p.part) at ps rest l (omega arith))

module _ (s : List ℕ) (all : List Piece) (accepted : packet_of s ≡ carries all) where
  -- the answer and the part, from what is found
  next-is : (at : ℕ) (f : Found) → find_in total_bytes all at ≡ f → next_of s at ≡ next_found at f
  unfolding next_of
  next-is at f e = rw (accepted, e)

  part-is : (at : ℕ) (f : Found) → find_in total_bytes all at ≡ f → part_of s at ≡ part_found f
  unfolding part_of
  part-is at f e = rw (accepted, e)

  read_on : (front : List Piece) (at : ℕ) (t : List ℕ) (ps : List Piece) → Carries t ps → Long front → at ≡ total_bytes + length (joined front)
      → front ++ ps ≡ all → ReadFrom s at ps
  unfolding find_in
  read_on front at t ps done l e a =
      let f : find_in total_bytes all at ≡ ends = rw (a, eq-eqb at at refl) at (found_after total_bytes at front [] l e) in
      ended (next-is at ends f)
  read_on front at t all_of (next {m} {p} {s} {ps} read c) l e a =
      let q : Piece = record { message = m; part = p } in
      let h : 0 < length p = omega (arith, (read-part p m read).least) in
      let f : find_in total_bytes all at ≡ starts q = rw (a, eq-eqb at at refl) at (found_after total_bytes at front (q ∷ ps) l e) in
      let b : (front ++ q ∷ []) ++ ps ≡ all = append_assoc front (q ∷ []) ps ∙ a in
      let r = read_on (front ++ q ∷ []) (at + length p) s ps c (long_snoc front q l h) (omega (arith, joined_snoc front q)) b in
      let g = gave (next-is at (starts q) f) r in
      rw (part-is at (starts q) f) at g

  -- from the first place to the end: the packet's messages, each with its part
  pub read_to_end : ReadFrom s total_bytes all
  unfolding joined
  read_to_end = read_on [] total_bytes (body_of s) all (accepted-carries s all accepted) none refl refl

  -- whose parts, one after another, are the packet behind the two bytes of its total
  pub parts-joined : joined all ≡ body_of s
  parts-joined = carried-joined (body_of s) all (accepted-carries s all accepted)

-- and nothing else can be read: the calls determine the list
given_not_end : (m : Message) (n : ℕ) → ◌≡◌ {A = Result (Option (Message × ℕ)) Refusal} (Ok (Some (m, n))) (Ok None) → ⊥
given_not_end m n h = let z : ◌≡◌ {A = ℕ} 0 1 = cc in omega arith

module _ (s : List ℕ) where
  same_reading : (at : ℕ) (all all' : List Piece) → ReadFrom s at all → ReadFrom s at all' → all ≡ all'
  same_reading at all all' (ended e) (ended e') = refl
  same_reading at all all' (ended e) (gave {next = n} {m = m} g r) = absurd (given_not_end m n (sym g ∙ e))
  same_reading at all all' (gave {next = n} {m = m} g r) (ended e) = absurd (given_not_end m n (sym g ∙ e))
  same_reading at all all' (gave {next = n} {m = m} {ps = ps} g r) (gave {next = n'} {m = m'} {ps = ps'} g' r') =
      let both : ◌≡◌ {A = Message × ℕ} (m, n) (m', n') = cc in
      let b : n' ≡ n = sym (ap (λ (x : Message × ℕ). x.1) both) in
      let c : m ≡ m' = ap (λ (x : Message × ℕ). x.0) both in
      let d : ps ≡ ps' = same_reading n ps ps' r (rw b at r') in
      rw (c, d)

  -- a message or the end is given of an accepted packet alone
  module _ (at : ℕ) where
    by_contents : (c : Contents) → packet_of s ≡ c → (answer : Result (Option (Message × ℕ)) Refusal) → next_in c at ≡ answer → ((x : Refusal) → answer ≡ Err x → ⊥)
        → (ps : List Piece) × (packet_of s ≡ carries ps)
    by_contents (refused x) e answer h n = absurd (n x (sym h))
    by_contents (carries ps) e answer h n = (ps, e)

    pub nothing_unless_accepted : (answer : Result (Option (Message × ℕ)) Refusal) → next_of s at ≡ answer → ((x : Refusal) → answer ≡ Err x → ⊥)
        → (ps : List Piece) × (packet_of s ≡ carries ps)
    unfolding next_of
    nothing_unless_accepted answer h n = by_contents (packet_of s) refl answer h n

  first-answer : (at : ℕ) (ps : List Piece) → ReadFrom s at ps → (all : List Piece) × (packet_of s ≡ carries all)
  first-answer at ps (ended e) = nothing_unless_accepted at (Ok None) e (λ x h. let z : ◌≡◌ {A = ℕ} 0 1 = cc in omega arith)
  first-answer at ps (gave {next = n} {m = m} g r) = nothing_unless_accepted at (Ok (Some (m, n))) g (λ x h. let z : ◌≡◌ {A = ℕ} 0 1 = cc in omega arith)

  -- so what was read to the end is what the packet carries
  pub read-exactly : (ps : List Piece) → ReadFrom s total_bytes ps → packet_of s ≡ carries ps
  read-exactly ps r =
      let (all, a) = first-answer total_bytes ps r in
      rw (same_reading total_bytes all ps (read_to_end s all a) r) at a
