-- The tests of a valid record, place by place.
use Prim.Native.Nat.{ℕ, zero, suc, ◌+◌, ◌-◌, ◌<◌, ◌≤◌}
use native.Mathlib.Omega.{arith}
use native.Mathlib.Numerals.{add-one}
use mathlib.Core.Path.{◌≡◌, refl, sym, ap, ◌∙◌}
use mathlib.Core.Bool.{Bool, true, false, ◌&&◌, not}
use mathlib.Core.List.{List, [], ◌∷◌}
use lib.Dec.{eqb, ltb}
use Rattle.std.specs.List.{range_with_len}
use Rattle.ids.specs.Limits.{valid_request}
use lib.ListN.{length, get_or, take, drop, drop_of_length-le, length-drop}
use lib.Seq.{drop-cons, get_or-take, length-take-le}
use borrow.Author.Tests.{lt-ltb, le-ltb, ltb-true, ltb-false}
use mathlib.Core.Logic.{⊎_elim}
use Rattle.ids.proofs.Choice.{decided}
use Rattle.ids.specs.Choice.{maybe}
use Rattle.std.specs.Prelude.{if◌then◌else◌, Some, None, Option}
use Rattle.ids.specs.Order.{before}
use Rattle.ids.specs.Requests.{no_request}
use Rattle.ids.specs.declared.Request.{Request}
use Rattle.ids.specs.declared.Timestamp.{Timestamp}
use Rattle.rows.specs.Queue.{timestamp_in}
use Rattle.ids.specs.Lists.{every}
use Rattle.server.specs.Record.{ordered, once}
use Rattle.rows.specs.Queues.{first, matching}
use Rattle.server.specs.Inner.{repeats}
use Rattle.rows.specs.declared.Wanted.TheVariants.{Client}
use Rattle.server_votes.proofs.ListLaws.{timestamp-first, timestamp-none}

-- n places from place a on, by their numbers
module _ (P : List Request) where
  places-every : (f : Request → Bool) (a n : ℕ) → a + n ≤ length P → every (λ i. f (get_or P i no_request)) (range_with_len a n) ≡ every f (take n (drop a P))
  places-every f a zero h = refl
  places-every f a (suc n) h =
      let e : a + 1 ≡ suc a = omega arith in
      rw (drop-cons P a no_request (omega arith)) (ap (λ (b : Bool). f (get_or P a no_request) && b) (rw e (places-every f (suc a) n (omega arith))))

  places-ordered : (a n : ℕ) → a + n < length P
      → every (λ i. before (get_or P (i - 1) no_request) (get_or P i no_request)) (range_with_len (suc a) n) ≡ ordered (take (suc n) (drop a P))
  unfolding ordered
  places-ordered a zero h = let g : a < length P = omega arith in rw (drop-cons P a no_request g)
  places-ordered a (suc n) h =
      let e : suc a + 1 ≡ suc (suc a) = omega arith in
      let z : suc a - 1 ≡ a = omega arith in
      let g : suc a < length P = omega arith in
      rw (e, z, drop-cons P a no_request (omega arith), drop-cons P (suc a) no_request g)
      (ap (λ (b : Bool). before (get_or P a no_request) (get_or P (suc a) no_request) && b)
      (rw (drop-cons P (suc a) no_request g) at (places-ordered (suc a) n (omega arith))))

once-head : (o : Option Timestamp) (b c : Bool) → maybe o false (λ t. true) ≡ b → maybe o c (λ t. false) ≡ (if b then false else c)
once-head None true c e = let z : true ≡ false = sym e in cc
once-head None false c e = refl
once-head (Some t) true c e = refl
once-head (Some t) false c e = let z : true ≡ false = e in cc

pub once_cons : (x : Request) (l : List Request) (b : Bool) → repeats (x ∷ l) ≡ b → once (x ∷ l) ≡ (if b then false else once l)
unfolding once
once_cons x l b e = once-head (timestamp_in x.client l) b (once l) e

unless : (b c : Bool) → not b && c ≡ (if b then false else c)
unless true c = refl
unless false c = refl

once-none : true ≡ once []
unfolding once
once-none = refl

places-once : (l : List Request) (a n : ℕ) → a + n ≡ length l → every (λ i. not (repeats (drop i l))) (range_with_len a n) ≡ once (drop a l)
places-once l a zero h = rw (drop_of_length-le l {i = a} (omega arith)) once-none
places-once l a (suc n) h =
    let e : a + 1 ≡ suc a = omega arith in
    let i : every (λ i. not (repeats (drop i l))) (range_with_len (a + 1) n) ≡ once (drop (suc a) l) = rw e (places-once l (suc a) n (omega arith)) in
    let d = drop-cons l a no_request (omega arith) in
    ap (λ (b : Bool). not (repeats (drop a l)) && b) i ∙ unless (repeats (drop a l)) (once (drop (suc a) l))
    ∙ rw d (sym (once_cons (get_or l a no_request) (drop (suc a) l) (repeats (get_or l a no_request ∷ drop (suc a) l)) refl))

-- the answers of the three tests, for the first len places of P
module _ (P : List Request) (len : ℕ) (w : len ≤ length P) (r : Bool) where
  pub valid_decided : r ≡ every (λ i. valid_request (get_or P i no_request)) (range_with_len 0 (len - 0)) → r ≡ every valid_request (take len P)
  valid_decided e = let z : len - 0 ≡ len = omega arith in (rw z at e) ∙ places-every P valid_request 0 len (omega arith)

  pub once_decided : r ≡ every (λ i. not (repeats (drop i (take len P)))) (range_with_len 0 (len - 0)) → r ≡ once (take len P)
  once_decided e = let z : len - 0 ≡ len = omega arith in (rw z at e) ∙ places-once (take len P) 0 len (omega (arith, length-take-le len P w))

pub order_decided : (P : List Request) (len : ℕ) → len ≤ length P → (r : Bool)
    → r ≡ every (λ i. before (get_or P (i - 1) no_request) (get_or P i no_request)) (range_with_len 1 (len - 1)) → r ≡ ordered (take len P)
unfolding ordered
order_decided P zero w r e = e
order_decided P (suc n) w r e = let z : suc n - 1 ≡ n = omega arith in (rw z at e) ∙ places-ordered P 0 n (omega arith)

-- a client that stands again further on, by the search for it
module _ (P : List Request) (len i at : ℕ) (w : len ≤ length P) (h : i < len) (x : Request) (p : x ≡ get_or P i no_request)
    (e : at ≡ i + 1 + first (matching Client x) (drop (i + 1) (take len P))) where
  pub repeats_by_search : ltb at len ≡ repeats (drop i (take len P))
  repeats_by_search =
      let l : List Request = take len P in
      let n : length l ≡ len = length-take-le len P (omega arith) in
      let k : get_or l i no_request ≡ x = get_or-take len P i no_request h ∙ sym p in
      let head : drop i l ≡ x ∷ drop (suc i) l = drop-cons l i no_request (omega arith) ∙ ap (λ (y : Request). y ∷ drop (suc i) l) k in
      let m : length (drop (suc i) l) ≡ len - suc i = length-drop (suc i) l ∙ ap (λ (y : ℕ). y - suc i) n in
      let f : ℕ = first (λ y. eqb y.client.0 x.client.0) (drop (suc i) l) in
      let a : at ≡ suc i + f = rw (add-one i) at e in
      ⊎_elim
      (λ (t : ltb f (length (drop (suc i) l)) ≡ true).
      let b : f < length (drop (suc i) l) = ltb-true _ _ t in
      let c : at < len = omega arith in
      lt-ltb _ _ c ∙ sym (ap repeats head ∙ rw (timestamp-first x.client (drop (suc i) l) b)))
      (λ (t : ltb f (length (drop (suc i) l)) ≡ false).
      let b : length (drop (suc i) l) ≤ f = ltb-false _ _ t in
      let c : len ≤ at = omega arith in
      le-ltb _ _ c ∙ sym (ap repeats head ∙ rw (timestamp-none x.client (drop (suc i) l) b)))
      (decided (ltb f (length (drop (suc i) l))))
