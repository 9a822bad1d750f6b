-- A count of the places that fail a test, and what it says of the row.
use Prim.Native.Nat.{ℕ, zero, suc, ◌+◌, ◌*◌, ◌-◌, ◌/◌, ◌<◌, ◌≤◌}
use native.Mathlib.Numerals.{add-one}
use native.Mathlib.Omega.{arith}
use mathlib.Core.Path.{◌≡◌, refl, sym, ap, ◌∙◌}
use mathlib.Core.Bool.{Bool, true, false, ◌&&◌, and-false}
use mathlib.Core.Logic.{⊎_elim}
use mathlib.Core.List.{List, [], ◌∷◌}
use lib.Dec.{eqb, leb}
use lib.ListN.{length, get_or, take, drop, replicate, length-drop, drop_of_length-le}
use lib.Seq.{drop-cons}
use borrow.Author.Tests.{eq-eqb, ne_eqb, le-leb, lt-leb, eqb-true, leb-true}
use Rattle.ids.specs.Lists.{every}
use Rattle.ids.specs.Limits.{max_client}
use Rattle.ids.specs.Requests.{same, no_request}
use Rattle.ids.specs.declared.Request.{Request}
use Rattle.ids.proofs.Choice.{both, decided}
use Rattle.ids.proofs.ListLaws.{every-same}
use Rattle.ids.proofs.RequestLaws.{same_true, same_refl}
use Rattle.rows.specs.Rows.{requests_in, fits_place, Padded}
use Rattle.rows.proofs.WordLaws.{requests-at, requests-front}
use Rattle.rows.specs.Good.{empty, good_row}
use Rattle.rows.specs.Inner.{miss, misses}

-- no miss is a test passed by every element
step : (b : Bool) (n : ℕ) (r : Bool) → eqb n 0 ≡ r → eqb (miss b + n) 0 ≡ b && r
step true n r e = let z : 0 + n ≡ n = omega arith in rw z e
step false n r e = ne_eqb (1 + n) 0 (λ h. omega arith)

pub none_missed : (f : Request → Bool) (l : List Request) → eqb (misses f l) 0 ≡ every f l
unfolding misses
none_missed f [] = refl
none_missed f (x ∷ l) = step (f x) (misses f l) (every f l) (none_missed f l)

few : (b : Bool) → miss b ≤ 1
few true = omega arith
few false = omega arith

pub length-requests : (ws : List ℕ) (n : ℕ) → length ws ≡ 2 * n → length (requests_in ws) ≡ n
unfolding requests_in
length-requests [] n e = omega arith
length-requests (k ∷ []) n e = omega arith
length-requests (k ∷ (t ∷ ws)) zero e = omega arith
length-requests (k ∷ (t ∷ ws)) (suc n) e = let z : length ws ≡ 2 * n = omega arith in ap suc (length-requests ws n z)

pub even-requests : (ws : List ℕ) → 2 * (length ws / 2) ≡ length ws → length (requests_in ws) ≡ length ws / 2
even-requests ws e = length-requests ws (length ws / 2) (sym e)

pub odd_requests : (ws : List ℕ) → (2 * (length ws / 2) ≡ length ws → ⊥) → 2 * length (requests_in ws) ≡ length ws → ⊥
odd_requests ws n e = n (omega arith)

-- a loop over the places from `from` on has counted up to place i
pub record Counting (f : Request → Bool) (ws : List ℕ) (from bad i : ℕ) : Type 0 where
  pub few : bad ≤ i
  pub passed : bad + misses f (drop i (requests_in ws)) ≡ misses f (drop from (requests_in ws))

module _ (f : Request → Bool) (ws : List ℕ) (from bad i : ℕ) (C : Counting f ws from bad i) (n : ℕ) (size : length ws ≡ 2 * n) where
  pub counting_more : (x : ℕ) → i < n → x ≡ miss (f (get_or (requests_in ws) i no_request)) → Counting f ws from (bad + x) (i + 1)
  unfolding misses
  counting_more x h e =
      let l = length-requests ws n size in
      let d : drop i (requests_in ws) ≡ get_or (requests_in ws) i no_request ∷ drop (suc i) (requests_in ws) = drop-cons (requests_in ws) i
      no_request (omega arith) in
      let m : misses f (drop i (requests_in ws)) ≡ miss (f (get_or (requests_in ws) i no_request)) + misses f (drop (suc i) (requests_in ws)) = ap (misses f) d in
      record { few = omega (arith, C.few, few (f (get_or (requests_in ws) i no_request))); passed = rw add-one (omega (arith, C.passed)) }

  pub counting_all : n ≤ i → bad ≡ misses f (drop from (requests_in ws))
  unfolding misses
  counting_all h =
      let l = length-requests ws n size in
      let d : drop i (requests_in ws) ≡ [] = drop_of_length-le (requests_in ws) {i = i} (omega arith) in
      let m : misses f (drop i (requests_in ws)) ≡ 0 = ap (misses f) d in
      omega (arith, C.passed)

-- the two tests, of a place's words
module _ (ws : List ℕ) (n : ℕ) (size : length ws ≡ 2 * n) (i x : ℕ) (h : i < n) where
  inside : 2 * i + 2 ≤ length ws
  inside = omega (arith, size)

  pub fits-at : x ≡ miss (leb (get_or ws (2 * i) 0) max_client) → x ≡ miss (fits_place (get_or (requests_in ws) i no_request))
  fits-at e = rw (requests-at ws i inside) e

  pub empty-at : x ≡ miss (eqb (get_or ws (2 * i) 0) 0 && eqb (get_or ws (2 * i + 1) 0) 0) → x ≡ miss (empty (get_or (requests_in ws) i no_request))
  unfolding same
  empty-at e = rw (requests-at ws i inside) (rw add-one at e)

-- an empty place fits, so that only those in front need the test
all-empty : (l : List Request) → every empty l ≡ true → l ≡ replicate (length l) no_request
all-empty [] e = refl
all-empty (x ∷ l) e =
    let (a, b) = both (empty x) (every empty l) e in
    let p = same_true x no_request a in
    let q = all-empty l b in
    λ i. p i ∷ q i

empty-fits : (l : List Request) → every empty l ≡ true → every fits_place l ≡ true
empty-fits l e = rw (all-empty l e) (every-same fits_place (length l) no_request refl)

fits_all : (l : List Request) → every empty l ≡ every fits_place l && every empty l
fits_all l =
    ⊎_elim
    (λ (e : every empty l ≡ true). rw (e, empty-fits l e))
    (λ (e : every empty l ≡ false). rw (e, and-false (every fits_place l)))
    (decided (every empty l))

fits-front : (l : List Request) (k : ℕ) → every fits_place (take k l) && every empty (drop k l) ≡ every fits_place l && every empty (drop k l)
fits-front l zero = fits_all l
fits-front [] (suc k) = refl
fits-front (x ∷ l) (suc k) = under (fits_place x) (every fits_place (take k l)) (every fits_place l) (every empty (drop k l)) (fits-front l k)
  where
    under : (a b b' c : Bool) → b && c ≡ b' && c → (a && b) && c ≡ (a && b') && c
    under true b b' c e = e
    under false b b' c e = refl

-- the tests one after another
module _ (row : List ℕ) (len : ℕ) where
  pub good_odd : (2 * (length row / 2) ≡ length row → ⊥) → false ≡ good_row row len
  unfolding good_row
  good_odd n = rw (ne_eqb (2 * length (requests_in row)) (length row) (odd_requests row n))

  module _ (e : 2 * (length row / 2) ≡ length row) where
    evenly : 2 * length (requests_in row) ≡ length row
    evenly = omega (arith, even-requests row e)

    pub good-short : length row / 2 < len → false ≡ good_row row len
    unfolding good_row
    good-short h = let n : length (requests_in row) < len = omega (arith, even-requests row e) in rw (eq-eqb _ _ evenly, lt-leb _ _ n)

    module _ (h : len ≤ length row / 2) where
      within : len ≤ length (requests_in row)
      within = omega (arith, even-requests row e)

      module _ (x : ℕ) (a : x ≡ misses fits_place (requests_in (take (2 * len) row))) where
        front_fits : eqb x 0 ≡ every fits_place (take len (requests_in row))
        front_fits = rw (a, requests-front row len) (none_missed fits_place (take len (requests_in row)))

        pub good-wide : (x ≡ 0 → ⊥) → false ≡ good_row row len
        unfolding good_row
        good-wide n = rw (eq-eqb _ _ evenly, le-leb _ _ within, ← fits-front (requests_in row) len, ← front_fits, ne_eqb _ _ n)

        pub good_tested : (y : ℕ) → x ≡ 0 → y ≡ misses empty (drop len (requests_in row)) → eqb y 0 ≡ good_row row len
        unfolding good_row
        good_tested y z b =
            let t : every fits_place (take len (requests_in row)) ≡ true = sym front_fits ∙ eq-eqb _ _ z in
            rw (eq-eqb _ _ evenly, le-leb _ _ within, ← fits-front (requests_in row) len, t, b) (none_missed empty (drop len (requests_in row)))

-- a row that passes is in good order, and one in good order passes
module _ (row : List ℕ) (len : ℕ) where
  pub good-padded : good_row row len ≡ true → Padded row len
  unfolding good_row
  good-padded e =
      let (a, r₁) = both (eqb (2 * length (requests_in row)) (length row))
      (leb len (length (requests_in row)) && (every fits_place (requests_in row) && every empty (drop len (requests_in row)))) e in
      let (b, r₂) = both (leb len (length (requests_in row))) (every fits_place (requests_in row) && every empty (drop len (requests_in row))) r₁ in
      let (c, d) = both (every fits_place (requests_in row)) (every empty (drop len (requests_in row))) r₂ in
      let n = length-drop len (requests_in row) in
      record {
        places = record { even = sym (eqb-true _ _ a); small = c };
        within = leb-true _ _ b;
        rest = rw n at (all-empty (drop len (requests_in row)) d);
      }

  pub padded-good : Padded row len → good_row row len ≡ true
  unfolding good_row
  padded-good P =
      rw (eq-eqb _ _ (sym P.places.even), le-leb _ _ P.within, P.places.small, P.rest)
      (every-same empty (length (requests_in row) - len) no_request (same_refl no_request))
