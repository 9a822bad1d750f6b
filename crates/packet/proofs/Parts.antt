-- What is carried is cut from the bytes: the parts joined are the bytes, and each part is read as its message, all of it.
use Rattle.std.specs.Prelude.{Ok, Err, Result, Some, None, Option}
use Prim.Native.Nat.{ℕ, zero, suc, ◌≤◌}
use native.Mathlib.Omega.{arith}
use mathlib.Core.Path.{◌≡◌, refl, sym, ap, ◌∙◌}
use mathlib.Core.Bool.{true, false}
use mathlib.Core.List.{List, [], ◌∷◌, ◌++◌}
use mathlib.Core.Logic.{⊎_elim}
use lib.Dec.{eqb}
use lib.ListN.{length, take, drop, take-append-drop, length-append}
use lib.Seq.{length-take-le, take-append-le, take-append_seam, drop-append_seam}
use borrow.Author.Tests.{eqb-true}
use Rattle.ids.specs.Choice.{maybe}
use Rattle.ids.specs.Limits.{max_servers}
use Rattle.ids.specs.declared.Refusal.{Refusal}
use Rattle.ids.specs.declared.Refusal.TheVariants.{PacketMalformed}
use Rattle.ids.proofs.Choice.{decided}
use Rattle.wire.specs.Bytes.{number}
use Rattle.wire.specs.Format.{length_in, kind_in}
use Rattle.wire.specs.Calls.{read_of}
use Rattle.wire.specs.declared.Message.{Message}
use Rattle.wire.proofs.FormatLaws.{length_in_lem, at_least}
use Rattle.wire.proofs.RoundTrip.{took}
use Rattle.packet.specs.Packet.{fits, with_first, cut_into, cut, Piece, Contents, refused, carries, in_front, read_parts, contents_of, joined}
use Rattle.packet.specs.Parts.{Part, Cut, Carries, done, next}
use Rattle.packet.proofs.WalkLaws.{fitting, fitted, cut-empty, cut-next}

some_not_none : (ps : List (List ℕ)) → ◌≡◌ {A = Option (List (List ℕ))} None (Some ps) → ⊥
some_not_none ps h = let z : ◌≡◌ {A = ℕ} 0 1 = cc in omega arith

nothing : (s : List ℕ) → length s ≡ 0 → s ≡ []
nothing [] h = refl
nothing (b ∷ s) h = absurd (omega arith)

-- a length field is read from the first two bytes
length_front : (p s : List ℕ) → 2 ≤ length p → length_in (p ++ s) ≡ length_in p
length_front p s h = sym (length_in_lem (p ++ s)) ∙ (ap number (take-append-le 2 p s h) ∙ length_in_lem p)

-- the walk finds them
after_first : (p : List ℕ) (o : Option (List (List ℕ))) (ps : List (List ℕ)) → with_first p o ≡ Some ps
    → (rest : List (List ℕ)) × (o ≡ Some rest) × (ps ≡ p ∷ rest)
after_first p None ps h = absurd (some_not_none ps h)
after_first p (Some rest) ps h = (rest, refl, cc)

cut-within : (c : ℕ) (s : List ℕ) (ps : List (List ℕ)) → cut_into c s ≡ Some ps → Cut s ps
unfolding cut_into
cut-within zero s ps h = absurd (some_not_none ps h)
cut-within (suc c) s ps h =
    ⊎_elim
    (λ (e : eqb (length s) 0 ≡ true).
    let n : s ≡ [] = nothing s (eqb-true _ _ e) in
    let g : Some [] ≡ Some ps = rw e at h in
    let m : [] ≡ ps = cc in
    rw (n, ← m) done)
    (λ (e : eqb (length s) 0 ≡ false).
    ⊎_elim
    (λ (f : fits s ≡ true).
    let w : with_first (take (length_in s) s) (cut_into c (drop (length_in s) s)) ≡ Some ps = rw (e, f) at h in
    let (rest, a, b) = after_first (take (length_in s) s) (cut_into c (drop (length_in s) s)) ps w in
    let g = fitting s f in
    let l : length (take (length_in s) s) ≡ length_in s = length-take-le (length_in s) s g.within in
    let j : take (length_in s) s ++ drop (length_in s) s ≡ s = take-append-drop (length_in s) s in
    let i : length_in s ≡ length_in (take (length_in s) s) = rw j at (length_front (take (length_in s) s) (drop (length_in s) s) (omega (arith, l, g.least))) in
    let d : Cut (take (length_in s) s ++ drop (length_in s) s) (take (length_in s) s ∷ rest) =
    next (record { least = omega (arith, l, g.least); is = sym i ∙ sym l }) (cut-within c (drop (length_in s) s) rest a) in
    rw b (rw j at d))
    (λ (f : fits s ≡ false). absurd (some_not_none ps (rw (e, f) at h)))
    (decided (fits s)))
    (decided (eqb (length s) 0))

pub cut_only : (s : List ℕ) (ps : List (List ℕ)) → cut s ≡ Some ps → Cut s ps
cut_only s ps h = cut-within (suc (length s)) s ps h

pub cut_all : (whole : List ℕ) (parts : List (List ℕ)) → Cut whole parts → cut whole ≡ Some parts
cut_all whole parts done = cut-empty [] refl
cut_all whole parts (next {p} {s} {ps} g d) =
    let i : length_in (p ++ s) ≡ length p = length_front p s (omega (arith, g.least)) ∙ g.is in
    let f : fits (p ++ s) ≡ true = fitted (p ++ s) (omega (arith, i, g.least)) (omega (arith, i, length-append p s)) in
    cut-next (p ++ s) f ∙ rw (i, take-append_seam p s, drop-append_seam p s, cut_all s ps d)

-- a part that is read: its length field, the bytes used and its own length are one
read_whole : (p : List ℕ) (m : Message) (n : ℕ) → Part p → read_of p ≡ Ok (m, n) → read_of p ≡ Ok (m, length p)
read_whole p m n g r = let t = took max_servers p m n r in let e : n ≡ length p = sym t.used ∙ (sym t.claimed ∙ g.is) in rw e at r

pub read-part : (p : List ℕ) (m : Message) → read_of p ≡ Ok (m, length p) → Part p
read-part p m r =
    let t = took max_servers p m (length p) r in
    record { least = omega (arith, t.used, at_least (kind_in p)); is = t.claimed ∙ t.used }

pub never : (x : Refusal) (ps : List Piece) → ◌≡◌ {A = Contents} (refused x) (carries ps) → ⊥
never x ps h = let z : ◌≡◌ {A = ℕ} 0 1 = cc in omega arith

first-carried : (p : List ℕ) (q : Result (Message × ℕ) Refusal) (rest : Contents) (ps : List Piece) → in_front p q rest ≡ carries ps
    → (m : Message) × (n : ℕ) × (qs : List Piece) × (q ≡ Ok (m, n)) × (rest ≡ carries qs) × (ps ≡ record { message = m; part = p } ∷ qs)
first-carried p (Err x) rest ps h = absurd (never x ps h)
first-carried p (Ok (m, n)) (refused x) ps h = absurd (never x ps h)
first-carried p (Ok (m, n)) (carries qs) ps h = (m, n, qs, refl, refl, cc)

parts-carried : (s : List ℕ) (parts : List (List ℕ)) → Cut s parts → (ps : List Piece) → read_parts parts ≡ carries ps → Carries s ps
unfolding read_parts
parts-carried whole parts done ps h = let e : [] ≡ ps = cc in rw (← e) done
parts-carried whole parts (next {p} {s} {ps} g d) qs h =
    let (m, n, rest, a, b, c) = first-carried p (read_of p) (read_parts ps) qs h in
    rw c (next (read_whole p m n g a) (parts-carried s ps d rest b))

by_cut : (s : List ℕ) (o : Option (List (List ℕ))) → cut s ≡ o → (ps : List Piece) → maybe o (refused PacketMalformed) read_parts ≡ carries ps → Carries s ps
by_cut s None e ps h = absurd (never PacketMalformed ps h)
by_cut s (Some parts) e ps h = parts-carried s parts (cut_only s parts e) ps h

-- what is carried is just that
pub carried_only : (s : List ℕ) (ps : List Piece) → contents_of s ≡ carries ps → Carries s ps
unfolding contents_of
carried_only s ps h = by_cut s (cut s) refl ps h

parts_of : List Piece → List (List ℕ)
parts_of [] = []
parts_of (p ∷ ps) = p.part ∷ parts_of ps

carried-cut : (s : List ℕ) (ps : List Piece) → Carries s ps → Cut s (parts_of ps)
unfolding parts_of
carried-cut whole all done = done
carried-cut whole all (next {m} {p} {s} {ps} r d) = next (read-part p m r) (carried-cut s ps d)

carried-read : (s : List ℕ) (ps : List Piece) → Carries s ps → read_parts (parts_of ps) ≡ carries ps
unfolding parts_of read_parts
carried-read whole all done = refl
carried-read whole all (next {m} {p} {s} {ps} r d) = rw (r, carried-read s ps d)

pub carried-all : (s : List ℕ) (ps : List Piece) → Carries s ps → contents_of s ≡ carries ps
unfolding contents_of
carried-all s ps c = rw (cut_all s (parts_of ps) (carried-cut s ps c)) (carried-read s ps c)

-- the parts joined are the bytes
pub carried-joined : (s : List ℕ) (ps : List Piece) → Carries s ps → joined ps ≡ s
unfolding joined
carried-joined whole all done = refl
carried-joined whole all (next {m} {p} {s} {ps} r d) = rw (carried-joined s ps d)
