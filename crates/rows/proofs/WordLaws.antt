-- Places in words: a place is read and written in its two words. These are all that is said of words; the rest is of lists of requests.
use Prim.Native.Nat.{ℕ, zero, suc, ◌+◌, ◌*◌, ◌-◌, ◌≤◌}
use native.Mathlib.Numerals.{add-one}
use native.Mathlib.Omega.{arith}
use mathlib.Core.Path.{◌≡◌, refl, ap, ◌∙◌}
use mathlib.Core.Bool.{true}
use mathlib.Core.List.{List, [], ◌∷◌, ◌++◌}
use lib.ListN.{length, get_or, set, take, drop, replicate, length-set, length-append, length-drop}
use lib.Seq.{sets, length-sets, get_or-set_other, length-take-le}
use Rattle.std.specs.List.{copy_within}
use borrow.Author.Tests.{leb-true, le-leb}
use Rattle.ids.specs.Limits.{max_client}
use Rattle.ids.specs.Requests.{no_request}
use Rattle.ids.specs.declared.Request.{Request}
use Rattle.ids.proofs.ListLaws.{every_set, every-at}
use Rattle.rows.specs.Rows.{words_of, request_words, requests_in, fits_place, Places}
use Rattle.rows.specs.Rows.{Put}

-- the request in the words from `at` on
abbrev pub place_at : List ℕ → ℕ → Request
place_at ws at = record { client = record { 0 = get_or ws at 0 }; timestamp = record { 0 = get_or ws (suc at) 0 } }

next_place : (i : ℕ) → 2 * suc i ≡ suc (suc (2 * i))
next_place i = omega arith

-- a place is its two words
pub requests-at : (ws : List ℕ) (i : ℕ) → 2 * i + 2 ≤ length ws → get_or (requests_in ws) i no_request ≡ place_at ws (2 * i)
unfolding requests_in
requests-at [] i h = absurd (omega arith)
requests-at (k ∷ []) i h = absurd (omega arith)
requests-at (k ∷ (t ∷ ws)) zero h = refl
requests-at (k ∷ (t ∷ ws)) (suc i) h = rw (next_place i) (requests-at ws i (omega arith))

-- a place's two words set are the place set
pub requests-set : (ws : List ℕ) (i : ℕ) (q : Request) → requests_in (sets ws (2 * i) (words_of q)) ≡ set (requests_in ws) i q
unfolding requests_in
requests-set [] i q = refl
requests-set (k ∷ []) zero q = refl
requests-set (k ∷ []) (suc i) q = rw (next_place i)
requests-set (k ∷ (t ∷ ws)) zero q = refl
requests-set (k ∷ (t ∷ ws)) (suc i) q = rw (next_place i)
    (ap (λ (l : List Request). record { client = record { 0 = k }; timestamp = record { 0 = t } } ∷ l) (requests-set ws i q))

-- the places of a part of the words, and of two parts together
pub requests-front : (ws : List ℕ) (k : ℕ) → requests_in (take (2 * k) ws) ≡ take k (requests_in ws)
unfolding requests_in
requests-front ws zero = refl
requests-front [] (suc k) = rw (next_place k)
requests-front (x ∷ []) (suc k) = rw (next_place k)
requests-front (x ∷ (t ∷ ws)) (suc k) = rw (next_place k)
    (ap (λ (l : List Request). record { client = record { 0 = x }; timestamp = record { 0 = t } } ∷ l) (requests-front ws k))

requests-behind : (ws : List ℕ) (k : ℕ) → requests_in (drop (2 * k) ws) ≡ drop k (requests_in ws)
unfolding requests_in
requests-behind ws zero = refl
requests-behind [] (suc k) = rw (next_place k)
requests-behind (x ∷ []) (suc k) = rw (next_place k)
requests-behind (x ∷ (t ∷ ws)) (suc k) = rw (next_place k) (requests-behind ws k)

requests-append : (xs ys : List ℕ) (k : ℕ) → length xs ≡ 2 * k → requests_in (xs ++ ys) ≡ requests_in xs ++ requests_in ys
unfolding requests_in
requests-append [] ys k e = refl
requests-append (x ∷ []) ys k e = absurd (omega arith)
requests-append (x ∷ (t ∷ xs)) ys zero e = absurd (omega arith)
requests-append (x ∷ (t ∷ xs)) ys (suc k) e =
    ap (λ (l : List Request). record { client = record { 0 = x }; timestamp = record { 0 = t } } ∷ l) (requests-append xs ys k (omega arith))

-- words moved by whole places are requests moved
module _ (ws : List ℕ) (i j to : ℕ) (h : i ≤ j) (g : 2 * j ≤ length ws) (room : 2 * (to + (j - i)) ≤ length ws) where
  pub requests_moved : requests_in (copy_within ws (2 * i) (2 * j) (2 * to)) ≡ copy_within (requests_in ws) i j to
  requests_moved =
      let n : 2 * j - 2 * i ≡ 2 * (j - i) = omega arith in
      let e : 2 * to + 2 * (j - i) ≡ 2 * (to + (j - i)) = omega arith in
      let a : length (take (2 * to) ws) ≡ 2 * to = length-take-le (2 * to) ws (omega arith) in
      let b : length (take (2 * (j - i)) (drop (2 * i) ws)) ≡ 2 * (j - i) = length-take-le (2 * (j - i)) (drop (2 * i) ws) (rw length-drop (omega arith)) in
      let c : length (take (2 * to) ws ++ take (2 * (j - i)) (drop (2 * i) ws)) ≡ 2 * (to + (j - i)) = rw length-append (omega arith) in
      rw (
        n,
        e,
        requests-append (take (2 * to) ws ++ take (2 * (j - i)) (drop (2 * i) ws)) (drop (2 * (to + (j - i))) ws) (to + (j - i)) c,
        requests-append (take (2 * to) ws) (take (2 * (j - i)) (drop (2 * i) ws)) to a,
        requests-front ws to,
        requests-front (drop (2 * i) ws) (j - i),
        requests-behind ws i,
        requests-behind ws (to + (j - i)),
      )

-- the words of a row of places are those of its requests: what is said of the requests is said of every word
pub row-again : (ws : List ℕ) → length ws ≡ 2 * length (requests_in ws) → request_words (requests_in ws) ≡ ws
unfolding requests_in request_words
row-again [] e = refl
row-again (k ∷ []) e = absurd (omega arith)
row-again (k ∷ (t ∷ ws)) e = ap (λ (l : List ℕ). k ∷ (t ∷ l)) (row-again ws (omega arith))

pub words_append : (l r : List Request) → request_words (l ++ r) ≡ request_words l ++ request_words r
unfolding request_words
words_append [] r = refl
words_append (q ∷ l) r = ap (λ (x : List ℕ). q.client.0 ∷ (q.timestamp.0 ∷ x)) (words_append l r)

pub words-empty : (n : ℕ) → request_words (replicate n no_request) ≡ replicate (2 * n) 0
unfolding request_words
words-empty zero = refl
words-empty (suc n) = rw (next_place n) (ap (λ (x : List ℕ). 0 ∷ (0 ∷ x)) (words-empty n))

module _ (row after : List ℕ) (i : ℕ) (r : Request) where
  pub put-requests : Put row after i r → requests_in after ≡ set (requests_in row) i r
  put-requests P = rw P.words (requests-set row i r)

  pub put-size : Put row after i r → length after ≡ length row
  put-size P = ap length P.words ∙ length-sets row (2 * i) (words_of r)

  -- two words stored are a place put, if the client is small or was so
  pub put_made : after ≡ sets row (2 * i) (words_of r) → (Places row → fits_place r ≡ true) → Put row after i r
  put_made e small =
      let n : requests_in after ≡ set (requests_in row) i r = rw e (requests-set row i r) in
      let s : length after ≡ length row = ap length e ∙ length-sets row (2 * i) (words_of r) in
      record {
        words = e;
        places = λ p. record { even = s ∙ rw (n, length-set) p.even; small = rw n (every_set fits_place (requests_in row) i r p.small (small p)) };
      }

module _ (row : List ℕ) (i : ℕ) (h : 2 * i + 2 ≤ length row) where
  pub small_at : Places row → fits_place (get_or (requests_in row) i no_request) ≡ true
  small_at p = every-at fits_place no_request (requests_in row) i p.small (omega (arith, p.even))

  pub client-small : Places row → get_or row (2 * i) 0 ≤ max_client
  client-small p = leb-true _ _ (rw (requests-at row i h) at (small_at p))

-- a request's words stored
pub put-stored : (row : List ℕ) (i : ℕ) (r : Request) → r.client.0 ≤ max_client
    → Put row (set (set row (2 * i) r.client.0) (2 * i + 1) r.timestamp.0) i r
put-stored row i r h = rw add-one (put_made row (sets row (2 * i) (words_of r)) i r refl (λ p. le-leb _ _ h))

-- one place's words stored at another
module _ (row : List ℕ) (from to : ℕ) (h : 2 * from + 2 ≤ length row) where
  unmoved : (v : ℕ) → get_or (set row (2 * to) v) (2 * from + 1) 0 ≡ get_or row (suc (2 * from)) 0
  unmoved v = get_or-set_other row (2 * to) (2 * from + 1) v 0 (λ e. omega arith) ∙ rw add-one refl

  pub put_copied : Put row
      (set (set row (2 * to) (get_or row (2 * from) 0)) (2 * to + 1) (get_or (set row (2 * to) (get_or row (2 * from) 0)) (2 * from + 1) 0)) to
      (get_or (requests_in row) from no_request)
  put_copied =
      let q = requests-at row from h in
      rw (
        unmoved,
        add-one,
        q,
      ) (put_made row (sets row (2 * to) (words_of (place_at row (2 * from)))) to (place_at row (2 * from)) refl (λ p. rw q at (small_at row from h p)))
