-- A place by its two words, and the places of a row one after another: what a loop that counts them knows before place i.
use Rattle.std.specs.Prelude.{Option}
use Prim.Native.Nat.{ℕ, zero, suc, ◌+◌, ◌*◌, ◌≤◌, ◌<◌}
use native.Mathlib.Numerals.{add-one}
use native.Mathlib.Omega.{arith}
use mathlib.Core.Path.{◌≡◌, refl, ◌∙◌, ap, sym}
use mathlib.Core.Bool.{Bool, true, false, ◌&&◌, not}
use mathlib.Core.List.{List, [], ◌∷◌, map}
use lib.Dec.{eqb}
use lib.ListN.{length, get_or, take, drop, length-map, drop_of_length-le, get_or-map}
use lib.Seq.{drop-cons, get_or-take, length-take-le}
use borrow.Author.Tests.{ne_eqb}
use Rattle.ids.specs.Limits.{valid_owner}
use Rattle.ids.specs.Lists.{every}
use Rattle.ids.specs.Requests.{same, is_request, no_request}
use Rattle.ids.specs.declared.Request.{Request}
use Rattle.rows.specs.Rows.{requests_in}
use Rattle.rows.proofs.WordLaws.{requests-at}
use Rattle.client_responses.specs.Figure1.{count}
use Rattle.client_responses.specs.Row.{shown, responses_in, own_is_current, misfit}
use Rattle.client_responses.specs.Inner.{pair, one}

-- whether a place shows a request
module _ (q : Request) (b : Bool) (e : b ≡ same q no_request) where
  pub own-empty : (r : Request) → b ≡ true → not b ≡ is_request r (shown q)
  own-empty r h = let t : b ≡ true = h in let f : same q no_request ≡ true = cc in rw (f, t)

  pub own-shown : (r : Request) (a : Bool) → b ≡ false → a ≡ same q r → a ≡ is_request r (shown q)
  own-shown r a h p = let t : b ≡ false = h in let f : same q no_request ≡ false = cc in rw f p

-- the first n places of a row
pub enough-places : (ws : List ℕ) (n : ℕ) → 2 * n ≤ length ws → n ≤ length (requests_in ws)
unfolding requests_in
enough-places ws zero h = omega arith
enough-places [] (suc n) h = absurd (omega arith)
enough-places (k ∷ []) (suc n) h = absurd (omega arith)
enough-places (k ∷ (t ∷ ws)) (suc n) h = let e = enough-places ws n (omega arith) in omega arith

module _ (ws : List ℕ) (n : ℕ) (size : 2 * n ≤ length ws) where
  pub length-responses : length (responses_in ws n) ≡ n
  length-responses = rw length-map (length-take-le n (requests_in ws) (enough-places ws n size))

  pub response-at : (i : ℕ) → i < n → drop i (responses_in ws n) ≡ shown (get_or (requests_in ws) i no_request) ∷ drop (suc i) (responses_in ws n)
  response-at i h =
      drop-cons (responses_in ws n) i (shown no_request) (omega (arith, length-responses))
      ∙ ap (λ (o : Option Request). o ∷ drop (suc i) (responses_in ws n)) (get_or-map shown (take n (requests_in ws)) i no_request ∙
      ap shown (get_or-take n (requests_in ws) i no_request h))

  pub words-at : (i : ℕ) → i < n → get_or (requests_in ws) i no_request ≡ pair (get_or ws (2 * i) 0) (get_or ws (2 * i + 1) 0)
  words-at i h = rw add-one (requests-at ws i (omega arith))

-- `found` places before place i pass the test f
pub record Counting (f : Option Request → Bool) (ws : List ℕ) (n found i : ℕ) : Type 0 where
  pub few : found ≤ i
  pub rest : count (map f (responses_in ws n)) ≡ found + count (map f (drop i (responses_in ws n)))

one_at_most : (b : Bool) → one b ≤ 1
one_at_most true = omega arith
one_at_most false = omega arith

module _ (f : Option Request → Bool) (ws : List ℕ) (n found i : ℕ) (C : Counting f ws n found i) (size : 2 * n ≤ length ws) where
  pub counting_more : (x : ℕ) → i < n → x ≡ one (f (shown (pair (get_or ws (2 * i) 0) (get_or ws (2 * i + 1) 0)))) → Counting f ws n (found + x) (i + 1)
  counting_more x h e =
      let q = words-at ws n size i h in
      let g : x ≡ one (f (shown (get_or (requests_in ws) i no_request))) = rw q e in
      let d : count (map f (drop i (responses_in ws n))) ≡ one (f (shown (get_or (requests_in ws) i no_request))) + count
      (map f (drop (suc i) (responses_in ws n))) = ap (λ (l : List (Option Request)). count (map f l)) (response-at ws n size i h) in
      record {
        few = omega (arith, C.few, one_at_most (f (shown (pair (get_or ws (2 * i) 0) (get_or ws (2 * i + 1) 0)))));
        rest = rw add-one (omega (arith, C.rest));
      }

  pub counting_all : n ≤ i → found ≡ count (map f (responses_in ws n))
  counting_all h =
      let d : drop i (responses_in ws n) ≡ [] = drop_of_length-le (responses_in ws n) {i = i} (omega (arith, length-responses ws n size)) in
      let z : count (map f (drop i (responses_in ws n))) ≡ 0 = ap (λ (l : List (Option Request)). count (map f l)) d in
      omega (arith, C.rest)

-- no misfit: every response is in range, and every own one current
and_false : (b : Bool) → b && false ≡ false
and_false true = refl
and_false false = refl

none-step : (a b : Bool) (n : ℕ) (p q : Bool) → eqb n 0 ≡ p && q → eqb (one (not (a && b)) + n) 0 ≡ (a && p) && (b && q)
none-step true true n p q e = let z : 0 + n ≡ n = omega arith in rw z e
none-step true false n p q e = ne_eqb (1 + n) 0 (λ h. omega arith) ∙ sym (and_false p)
none-step false b n p q e = ne_eqb (1 + n) 0 (λ h. omega arith)

pub no_misfit : (r : Request) (l : List (Option Request)) → eqb (count (map (misfit r) l)) 0 ≡ every valid_owner l && every (own_is_current r) l
no_misfit r [] = refl
no_misfit r (o ∷ l) = none-step (valid_owner o) (own_is_current r o) (count (map (misfit r) l)) (every valid_owner l) (every (own_is_current r) l) (no_misfit r l)
