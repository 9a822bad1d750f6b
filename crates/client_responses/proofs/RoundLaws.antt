-- The round of lines 14 to 17: 12 bytes for each response that names an owner, and what a loop that writes it knows before place i.
use Prim.Native.Nat.{ℕ, zero, suc, ◌+◌, ◌*◌, ◌≤◌, ◌<◌}
use native.Mathlib.Numerals.{add-one}
use native.Mathlib.Omega.{arith}
use mathlib.Core.Path.{◌≡◌, refl}
use mathlib.Core.Bool.{Bool, true, false}
use mathlib.Core.List.{List, [], ◌∷◌, ◌++◌, append_assoc, append-nil, map}
use lib.Dec.{eqb}
use lib.ListN.{length, get_or, take, length-append, get_or-map}
use lib.Seq.{sets, take-suc, take_all, length-take-le, get_or-take}
use Rattle.std.specs.Prelude.{if◌then◌else◌, Some, None, Option}
use Rattle.ids.specs.Order.{before}
use Rattle.ids.specs.Requests.{same, no_request}
use Rattle.ids.specs.declared.ServerId.{ServerId}
use Rattle.ids.specs.declared.Request.{Request}
use Rattle.wire.specs.Format.{bytes_of, size_of, bytes_of_all, size_of_all, message_bytes}
use Rattle.wire.specs.declared.Message.{Message}
use Rattle.wire.specs.declared.Message.TheVariants.{Request as REQUEST, Yield as YIELD, Inquiry as INQUIRY}
use Rattle.wire.proofs.BytesLaws.{stored_on}
use Rattle.wire.proofs.Sequence.{length-bytes_of_all, bytes_of_all-append, size_of_all-append, bytes_of_all-one, size_of_all-one}
use Rattle.client_responses.specs.Figure1.{filled, count, reply, replies, round}
use Rattle.rows.specs.Rows.{requests_in}
use Rattle.client_responses.specs.Row.{shown, responses_in}
use Rattle.client_responses.proofs.CountLaws.{length-responses}
use Rattle.client_responses.proofs.SendLaws.{request-plain, yield_plain, inquiry_plain}

-- one reply
module _ (r : Request) (j : ServerId) (q : Request) where
  module _ (a : Bool) (m : a ≡ eqb q.client.0 r.client.0) where
    pub reply_yield : a ≡ true → YIELD r.client j r.timestamp ≡ reply r j q
    unfolding reply
    reply_yield t = let e : eqb q.client.0 r.client.0 ≡ true = cc in rw e

    module _ (n : a ≡ false) (b : Bool) (p : b ≡ before r q) where
      other : eqb q.client.0 r.client.0 ≡ false
      other = cc

      pub reply-request : b ≡ true → REQUEST r.client j r.timestamp ≡ reply r j q
      unfolding reply
      reply-request t = let e : before r q ≡ true = cc in rw (other, e)

      pub reply_inquiry : b ≡ false → INQUIRY r.client j r.timestamp ≡ reply r j q
      unfolding reply
      reply_inquiry t = let e : before r q ≡ false = cc in rw (other, e)

  by_tests : (a b : Bool) → size_of (if a then YIELD r.client j r.timestamp else if b then REQUEST r.client j r.timestamp else
      INQUIRY r.client j r.timestamp) ≡ message_bytes
  by_tests true b = yield_plain r.client r.timestamp j
  by_tests false true = request-plain r.client r.timestamp j
  by_tests false false = inquiry_plain r.client r.timestamp j

  pub size-reply : size_of (reply r j q) ≡ message_bytes
  unfolding reply
  size-reply = by_tests (eqb q.client.0 r.client.0) (before r q)

  -- and the place that it is for
  module _ (b : Bool) (at : ℕ) (o : List ℕ) (p : b ≡ same q no_request) where
    pub replies-none : b ≡ true → (at ≡ at + size_of_all (replies r j (shown q))) × (o ≡ sets o at (bytes_of_all (replies r j (shown q))))
    unfolding size_of_all bytes_of_all
    replies-none t = let e : same q no_request ≡ true = cc in rw e (omega arith, refl)

    module _ (m : Message) (t : b ≡ false) (g : m ≡ reply r j q) where
      one : replies r j (shown q) ≡ m ∷ []
      one = let e : same q no_request ≡ false = cc in rw (e, g)

      pub replies_fit : at + size_of_all (replies r j (shown q)) ≤ length o → at + size_of m ≤ length o
      replies_fit h = rw (one, size_of_all-one) at h

      pub replies-one : (l : List ℕ) (n : ℕ) → (n ≡ at + size_of m) × (l ≡ sets o at (bytes_of m))
          → (n ≡ at + size_of_all (replies r j (shown q))) × (l ≡ sets o at (bytes_of_all (replies r j (shown q))))
      replies-one l n h = rw (one, size_of_all-one, bytes_of_all-one) h

module _ (r : Request) where
  size-replies : (j : ServerId) (o : Option Request) → size_of_all (replies r j o) ≡ message_bytes * (if filled o then 1 else 0)
  unfolding size_of_all
  size-replies j None = refl
  size-replies j (Some q) = omega (arith, size-reply r j q)

  pub size-round : (j : ℕ) (l : List (Option Request)) → size_of_all (round r j l) ≡ message_bytes * count (map filled l)
  unfolding round size_of_all
  size-round j [] = refl
  size-round j (o ∷ l) = rw size_of_all-append (omega (arith, size-replies (record { 0 = j }) o, size-round (suc j) l))

  length-replies : (j : ServerId) (o : Option Request) → length (replies r j o) ≡ (if filled o then 1 else 0)
  length-replies j None = refl
  length-replies j (Some q) = refl

  pub length-round : (j : ℕ) (l : List (Option Request)) → length (round r j l) ≡ count (map filled l)
  unfolding round
  length-round j [] = refl
  length-round j (o ∷ l) = rw length-append (omega (arith, length-replies (record { 0 = j }) o, length-round (suc j) l))

  round-more : (j : ℕ) (l : List (Option Request)) (o : Option Request) → round r j (l ++ o ∷ []) ≡ round r j l ++ replies r (record { 0 = j + length l }) o
  unfolding round
  round-more j [] o = let e : j + 0 ≡ j = omega arith in rw (append-nil, e)
  round-more j (x ∷ l) o =
      let e : suc j + length l ≡ j + suc (length l) = omega arith in
      rw (round-more (suc j) l o, append_assoc, e)

pub count-take : {A : Type 0} (f : A → Bool) (i : ℕ) (l : List A) → count (map f (take i l)) ≤ count (map f l)
count-take f zero l = omega arith
count-take f (suc i) [] = omega arith
count-take f (suc i) (x ∷ l) = omega (arith, count-take f i l)

-- the replies to the first i places stand in b, which was o
pub record Replying (r : Request) (ws : List ℕ) (n : ℕ) (o b : List ℕ) (at i : ℕ) : Type 0 where
  pub behind : at ≡ size_of_all (round r 1 (take i (responses_in ws n)))
  pub done : b ≡ sets o 0 (bytes_of_all (round r 1 (take i (responses_in ws n))))

module _ (r : Request) (ws : List ℕ) (n : ℕ) (o : List ℕ) where
  pub replying_none : Replying r ws n o o 0 0
  unfolding round size_of_all bytes_of_all
  replying_none = record { behind = refl; done = refl }

  module _ (b : List ℕ) (at i : ℕ) (R : Replying r ws n o b at i) (words : 2 * n ≤ length ws) where
    module _ (q : Request) (e : q ≡ get_or (requests_in ws) i no_request) (h : i < n) where
      next : round r 1 (take (i + 1) (responses_in ws n)) ≡ round r 1 (take i (responses_in ws n)) ++ replies r (record { 0 = i + 1 }) (shown q)
      next =
          let z = length-responses ws n words in
          let s : i < length (responses_in ws n) = omega arith in
          let s' : i ≤ length (responses_in ws n) = omega arith in
          let k : 1 + i ≡ suc i = omega arith in
          rw (
            add-one,
            take-suc (responses_in ws n) i (shown no_request),
            round-more,
            length-take-le,
            get_or-map shown (take n (requests_in ws)) i no_request,
            get_or-take,
            k,
            e,
          )

      pub replying_fits : message_bytes * count (map filled (responses_in ws n)) ≤ length o → length b ≡ length o
          → at + size_of_all (replies r (record { 0 = i + 1 }) (shown q)) ≤ length b
      replying_fits room size =
          let e : size_of_all (round r 1 (take (i + 1) (responses_in ws n))) ≡ size_of_all (round r 1 (take i (responses_in ws n))) + size_of_all
          (replies r (record { 0 = i + 1 }) (shown q)) = rw (next, size_of_all-append) in
          omega (arith, e, R.behind, size-round r 1 (take (i + 1) (responses_in ws n)), count-take filled (i + 1) (responses_in ws n))

      pub replying_more : (b' : List ℕ) (at' : ℕ)
          → (at' ≡ at + size_of_all (replies r (record { 0 = i + 1 }) (shown q))) × (b' ≡ sets b at (bytes_of_all (replies r (record { 0 = i + 1 }) (shown q))))
          → Replying r ws n o b' at' (i + 1)
      replying_more b' at' p =
          let m = replies r (record { 0 = i + 1 }) (shown q) in
          let d = round r 1 (take i (responses_in ws n)) in
          record {
            behind = rw (next, size_of_all-append) (omega (arith, R.behind, p.0));
            done = rw (
              next,
              bytes_of_all-append,
            ) (stored_on o b b' (bytes_of_all d) (bytes_of_all m) 0 at R.done p.1 (omega (arith, R.behind, length-bytes_of_all d)));
          }

    pub replying_all : n ≤ i → b ≡ sets o 0 (bytes_of_all (round r 1 (responses_in ws n)))
    replying_all h =
        let s : length (responses_in ws n) ≤ i = omega (arith, length-responses ws n words) in
        rw (take_all i (responses_in ws n) s) at R.done
