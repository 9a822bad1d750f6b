-- What bytes carry, part by part: the first part that reading refuses decides, and a place is found by passing the parts in front of it.
use Rattle.std.specs.Prelude.{Ok, Err, Result, Some, None, Option, ⊤}
use Prim.Native.Nat.{ℕ, ◌+◌, ◌-◌, ◌<◌, ◌≤◌}
use native.Mathlib.Nat.{add-sub_cancel_left}
use native.Mathlib.Omega.{arith}
use mathlib.Core.Path.{◌≡◌, refl, sym, ap, ◌∙◌}
use mathlib.Core.Bool.{true, false}
use mathlib.Core.List.{List, [], ◌∷◌}
use mathlib.Core.Logic.{⊎_elim}
use lib.ListN.{length, take, drop, length-drop}
use lib.Seq.{drop-drop, length-take-le}
use borrow.Author.Tests.{eq-eqb, ne_eqb}
use Rattle.ids.specs.Choice.{maybe}
use Rattle.ids.specs.declared.Refusal.{Refusal}
use Rattle.ids.specs.declared.Refusal.TheVariants.{PacketMalformed}
use Rattle.ids.proofs.Choice.{decided, clash}
use Rattle.wire.specs.Format.{length_in}
use Rattle.wire.specs.Calls.{read_of}
use Rattle.wire.specs.declared.Message.{Message}
use Rattle.packet.specs.Packet.{total_bytes, fits, with_first, cut, Piece, Contents, refused, carries, in_front, read_parts, contents_of, pieces}
use Rattle.packet.specs.Reading.{starts, find_in}
use Rattle.packet.specs.Inner.{size_in, walked, judged, Reached}
use Rattle.packet.proofs.WalkLaws.{sized, unfit, cut-empty, cut-next, walked_next, walked_stuck}

pub contents_empty : (s : List ℕ) → length s ≡ 0 → contents_of s ≡ carries []
unfolding contents_of read_parts
contents_empty s h = rw (cut-empty s h)

-- the walk decides first
module _ (p : List ℕ) where
  broken : (o : Option (List (List ℕ))) → maybe o false (λ ps. true) ≡ false → maybe o (refused PacketMalformed) read_parts ≡ refused PacketMalformed
  broken None h = refl
  broken (Some ps) h = clash true refl h

  front : (o : Option (List (List ℕ))) → maybe o false (λ ps. true) ≡ true
      → maybe (with_first p o) (refused PacketMalformed) read_parts ≡ in_front p (read_of p) (maybe o (refused PacketMalformed) read_parts)
  unfolding read_parts
  front None h = clash false h refl
  front (Some ps) h = refl

pub contents_broken : (s : List ℕ) → walked s ≡ false → contents_of s ≡ refused PacketMalformed
unfolding contents_of walked
contents_broken s h = broken [] (cut s) h

contents_next : (s : List ℕ) → fits s ≡ true → walked s ≡ true
    → contents_of s ≡ in_front (take (length_in s) s) (read_of (take (length_in s) s)) (contents_of (drop (length_in s) s))
unfolding contents_of walked
contents_next s f w =
    let p : List ℕ = take (length_in s) s in
    let v : maybe (cut (drop (length_in s) s)) false (λ ps. true) ≡ true = sym (walked_next s f) ∙ w in
    rw (cut-next s f) (front p (cut (drop (length_in s) s)) v)

-- the part that stands at a place from which the walk ends with the bytes
pub record PartAt (s : List ℕ) (at size : ℕ) : Type 0 where
  pub least : 0 < size
  pub within : at + size ≤ length s
  pub long : length (take size (drop at s)) ≡ size
  pub walked_on : walked (drop (at + size) s) ≡ true
  pub contents : contents_of (drop at s) ≡ in_front (take size (drop at s)) (read_of (take size (drop at s))) (contents_of (drop (at + size) s))

pub part_at : (s : List ℕ) (at size : ℕ) → at < length s → walked (drop at s) ≡ true → size ≡ size_in (drop at s) → PartAt s at size
part_at s at size h w e =
    let l = length-drop at s in
    let z = sized (drop at s) size e
    (λ n. clash (walked (drop at s)) w (walked_stuck (drop at s) (λ k. omega arith) (unfit (drop at s) (sym n ∙ e)))) in
    let d : drop size (drop at s) ≡ drop (at + size) s = drop-drop size at s in
    record {
      least = omega (arith, z.least);
      within = omega (arith, z.within);
      long = length-take-le size (drop at s) z.within;
      walked_on = rw (z.is, d) at (sym (walked_next (drop at s) z.fit) ∙ w);
      contents = rw (z.is, d) at (contents_next (drop at s) z.fit w);
    }

-- the first part that is refused decides
first-refused : (p : List ℕ) (q : Result (Message × ℕ) Refusal) (e : Refusal) (rest : Contents) → q ≡ Err e → judged (in_front p q rest) ≡ Err e
first-refused p q e rest h = rw h

first-accepted : (p : List ℕ) (q : Result (Message × ℕ) Refusal) (m : Message) (n : ℕ) (rest : Contents) → q ≡ Ok (m, n) → judged (in_front p q rest) ≡ judged rest
first-accepted p q m n (refused e) h = rw h
first-accepted p q m n (carries ps) h = rw h

-- the part from `at` to `at + size`, as the code lends it
pub lent-part : (s : List ℕ) (at size : ℕ) (q : Result (Message × ℕ) Refusal) → q ≡ read_of (take (at + size - at) (drop at s)) → q ≡ read_of (take size (drop at s))
lent-part s at size q r = rw (add-sub_cancel_left at size) at r

-- what `first_bad` knows at its loop's head: the walk ends with the bytes, and from `at` on they are judged as from `from` on
pub record Judging (s : List ℕ) (from at : ℕ) : Type 0 where
  pub within : at ≤ length s
  pub walks : walked (drop at s) ≡ true
  pub same : judged (contents_of (drop at s)) ≡ judged (contents_of (drop from s))

module _ (s : List ℕ) (from : ℕ) where
  pub judging_start : from ≤ length s → walked (drop from s) ≡ true → Judging s from from
  judging_start h w = record { within = h; walks = w; same = refl }

  module _ (at : ℕ) (inv : Judging s from at) where
    pub judging_done : length s ≤ at → Ok tt ≡ judged (contents_of (drop from s))
    judging_done h = sym (ap judged (contents_empty (drop at s) (omega (arith, length-drop at s)))) ∙ inv.same

    module _ (size : ℕ) (h : at < length s) (e : size ≡ size_in (drop at s)) where
      pub its-part : PartAt s at size
      its-part = part_at s at size h inv.walks e

      module _ (q : Result (Message × ℕ) Refusal) (r : q ≡ read_of (take (at + size - at) (drop at s))) where
        pub judging_more : (m : Message) (n : ℕ) → q ≡ Ok (m, n) → Judging s from (at + size)
        judging_more m n a =
            let p = its-part in
            let b : read_of (take size (drop at s)) ≡ Ok (m, n) = sym (lent-part s at size q r) ∙ a in
            let j = first-accepted (take size (drop at s)) (read_of (take size (drop at s))) m n (contents_of (drop (at + size) s)) b in
            record { within = p.within; walks = p.walked_on; same = sym (ap judged p.contents ∙ j) ∙ inv.same }

        pub judging_bad : (x : Refusal) → q ≡ Err x → Err x ≡ judged (contents_of (drop from s))
        judging_bad x a =
            let p = its-part in
            let b : read_of (take size (drop at s)) ≡ Err x = sym (lent-part s at size q r) ∙ a in
            let j = first-refused (take size (drop at s)) (read_of (take size (drop at s))) x (contents_of (drop (at + size) s)) b in
            sym (ap judged p.contents ∙ j) ∙ inv.same

-- bytes that carry messages: the walk ends with them, and the first is accepted
never : (x : Refusal) → ◌≡◌ {A = Result ⊤ Refusal} (Err x) (Ok tt) → ⊥
never x h = let z : ◌≡◌ {A = ℕ} 0 1 = cc in omega arith

pub carried_walks : (s : List ℕ) → judged (contents_of s) ≡ Ok tt → walked s ≡ true
carried_walks s h =
    ⊎_elim (λ (w : walked s ≡ true). w) (λ (w : walked s ≡ false). absurd (never PacketMalformed (sym (ap judged (contents_broken s w)) ∙ h)))
    (decided (walked s))

-- the part in front of those that are carried: the message that it is read as
pub record First (p : List ℕ) (q : Result (Message × ℕ) Refusal) (rest : Contents) : Type 0 where
  pub message : Message
  pub used : ℕ
  pub read : q ≡ Ok (message, used)
  pub others : judged rest ≡ Ok tt
  pub list : pieces (in_front p q rest) ≡ record { message = message; part = p } ∷ pieces rest

pub first : (p : List ℕ) (q : Result (Message × ℕ) Refusal) (rest : Contents) → judged (in_front p q rest) ≡ Ok tt → First p q rest
first p (Err x) rest h = absurd (never x h)
first p (Ok (m, n)) (refused x) h = absurd (never x h)
first p (Ok (m, n)) (carries ps) h = record { message = m; used = n; read = refl; others = refl; list = refl }

-- what is at a place: found at once where a message starts, else behind the first part
module _ (from : ℕ) (p : Piece) (ps : List Piece) (at : ℕ) where
  pub found_here : at ≡ from → find_in from (p ∷ ps) at ≡ starts p
  unfolding find_in
  found_here e = rw (eq-eqb at from e)

  found-behind : (at ≡ from → ⊥) → find_in from (p ∷ ps) at ≡ find_in (from + length p.part) ps at
  unfolding find_in
  found-behind n = rw (ne_eqb at from n)

-- the search begins at the first place
pub reached-first : (s : List ℕ) (at : ℕ) → total_bytes ≤ length s → judged (contents_of (drop total_bytes s)) ≡ Ok tt → Reached s at total_bytes
reached-first s at h g = record { within = h; carried = g; found = refl }

-- the part that stands at a place that was reached
module _ (s : List ℕ) (at place size : ℕ) (r : Reached s at place) (h : place < length s) (e : size ≡ size_in (drop place s)) where
  pub here : PartAt s place size
  here = part_at s place size h (carried_walks (drop place s) r.carried) e

  abbrev pub part : List ℕ
  part = take size (drop place s)

  pub its-first : First part (read_of part) (contents_of (drop (place + size) s))
  its-first = first part (read_of part) (contents_of (drop (place + size) s)) (sym (ap judged here.contents) ∙ r.carried)

  pub its-list : pieces (contents_of (drop place s)) ≡ record { message = its-first.message; part = part } ∷ pieces (contents_of (drop (place + size) s))
  its-list = ap pieces here.contents ∙ its-first.list

  pub reached-more : (at ≡ place → ⊥) → Reached s at (place + size)
  reached-more n =
      let q : Piece = record { message = its-first.message; part = part } in
      let f : find_in place (q ∷ pieces (contents_of (drop (place + size) s))) at ≡ find_in (place + size) (pieces (contents_of (drop (place + size) s))) at =
      rw here.long at (found-behind place q (pieces (contents_of (drop (place + size) s))) at n) in
      record { within = here.within; carried = its-first.others; found = sym (ap (λ l. find_in place l at) its-list ∙ f) ∙ r.found }
