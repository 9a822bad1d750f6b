-- Lines 8 and 9 on a row: one place put, what the row shows then is what the definition says of the responses, and the old place put back
-- is the row as it was.
use Prim.Native.Nat.{ℕ, zero, suc, ◌*◌, ◌-◌, ◌≤◌, ◌<◌}
use native.Mathlib.Omega.{arith}
use mathlib.Core.Path.{◌≡◌, refl, ◌∙◌, ap, sym}
use mathlib.Core.Bool.{Bool, true, false, ◌&&◌, not}
use mathlib.Core.List.{List, [], ◌∷◌, map}
use lib.ListN.{length, get_or, take, set, length-set, get_or-map}
use lib.Seq.{sets, length-sets, take-set-lt, drop-set-lt, get_or-take, set-set, set-get_or}
use borrow.Author.Tests.{ne_eqb, le-leb}
use Rattle.std.specs.Prelude.{if◌then◌else◌, Some, None, Option}
use Rattle.ids.specs.Limits.{max_client, valid_owner}
use Rattle.ids.specs.Requests.{same, is_request, no_request}
use Rattle.ids.specs.declared.ServerId.{ServerId}
use Rattle.ids.specs.declared.Request.{Request}
use Rattle.ids.proofs.LimitsLaws.{client-range, request-range}
use Rattle.rows.specs.Rows.{words_of, request_words, requests_in, fits_place, Places, Put, Padded}
use Rattle.rows.proofs.WordLaws.{put-requests, put-size, put_made, row-again}
use Rattle.client_responses.specs.Figure1.{current, told, heard}
use Rattle.client_responses.specs.Row.{shown, place, responses_in, place_of, heard_row}

-- what a response tells of is the timestamp of its place
pub told-place : (o : Option Request) (q : Request) → q ≡ place o → q.timestamp ≡ told o
told-place None q e = rw e
told-place (Some r) q e = rw e

-- the tests of the code
module _ (r : Request) (row : List ℕ) (j : ServerId) (o : Option Request) (q : Request) (g : q ≡ place_of row j) (b : Bool) (p : b ≡ is_request r (shown q)) where
  its : is_request r (shown (place_of row j)) ≡ b
  its = sym (p ∙ ap (λ (x : Request). is_request r (shown x)) g)

  pub hear_own : b ≡ true → row ≡ heard_row r row j o
  unfolding heard_row
  hear_own t = rw (its, t)

  module _ (a : Bool) (f : b ≡ false) (d : a ≡ current r o) where
    pub hear_old : a ≡ false → row ≡ heard_row r row j o
    unfolding heard_row
    hear_old t = let e : a ≡ false = t in rw (its, f, ← d, e)

    pub hear_new : (x : Request) (after : List ℕ) → a ≡ true → x ≡ place o → Put row after (j.0 - 1) x → after ≡ heard_row r row j o
    unfolding heard_row
    hear_new x after t e P = let h : a ≡ true = t in rw (its, f, ← d, h, ← e) P.words

-- a response as a place
pub shown-place : (o : Option Request) → valid_owner o ≡ true → shown (place o) ≡ o
unfolding valid_owner same
shown-place None h = refl
shown-place (Some q) h =
    let k = client-range q.client (request-range q h).0 in
    rw (ne_eqb q.client.0 0 (λ e. omega arith))

pub place-fits : (o : Option Request) → valid_owner o ≡ true → fits_place (place o) ≡ true
unfolding valid_owner
place-fits None h = refl
place-fits (Some q) h = le-leb q.client.0 max_client (client-range q.client (request-range q h).0).1

map-set : {A B : Type 0} (f : A → B) (l : List A) (i : ℕ) (a : A) → map f (set l i a) ≡ set (map f l) i (f a)
map-set f [] i a = refl
map-set f (x ∷ l) zero a = refl
map-set f (x ∷ l) (suc i) a = rw (map-set f l i a)

nobody_shown : shown no_request ≡ None
unfolding same
nobody_shown = refl

-- a row with a place put, or as it was
module _ (row : List ℕ) (i : ℕ) (x : Request) where
  abbrev chosen : Bool → List ℕ
  chosen b = if b then sets row (2 * i) (words_of x) else row

  put_it : fits_place x ≡ true → Put row (sets row (2 * i) (words_of x)) i x
  put_it f = put_made row (sets row (2 * i) (words_of x)) i x refl (λ p. f)

  chosen-size : (b : Bool) → length (chosen b) ≡ length row
  chosen-size true = length-sets row (2 * i) (words_of x)
  chosen-size false = refl

  chosen-padded : (b : Bool) (n : ℕ) → i < n → fits_place x ≡ true → Padded row n → Padded (chosen b) n
  chosen-padded false n h f good = good
  chosen-padded true n h f good =
      let P = put_it f in
      let e = put-requests row (chosen true) i x P in
      let z : length (requests_in (chosen true)) ≡ length (requests_in row) = rw e (length-set (requests_in row) i x) in
      record {
        places = P.places good.places;
        within = omega (arith, good.within);
        rest = rw (z, e, drop-set-lt n (requests_in row) i x h) good.rest;
      }

  chosen-shown : (b : Bool) (n : ℕ) (o : Option Request) → i < n → fits_place x ≡ true → shown x ≡ o
      → responses_in (chosen b) n ≡ (if b then set (responses_in row n) i o else responses_in row n)
  chosen-shown false n o h f e = refl
  chosen-shown true n o h f e = rw (put-requests row (chosen true) i x (put_it f), take-set-lt n (requests_in row) i x h, map-set, e)

  -- the old place put back
  module _ (after : List ℕ) (old : Request) (e : old ≡ get_or (requests_in row) i no_request) (places : Places row) where
    undone_requests : (b : Bool) → fits_place x ≡ true → Put (chosen b) after i old → requests_in after ≡ requests_in row
    undone_requests true f P =
        put-requests (chosen true) after i old P ∙ ap (λ (l : List Request). set l i old) (put-requests row (chosen true) i x (put_it f)) ∙
        set-set (requests_in row) i x old
        ∙ ap (λ (q : Request). set (requests_in row) i q) e ∙ set-get_or (requests_in row) i no_request
    undone_requests false f P = put-requests row after i old P ∙ ap (λ (q : Request). set (requests_in row) i q) e ∙ set-get_or (requests_in row) i no_request

    undone : (b : Bool) → fits_place x ≡ true → Put (chosen b) after i old → after ≡ row
    undone b f P =
        let g = undone_requests b f P in
        let s : length after ≡ length row = put-size (chosen b) after i old P ∙ chosen-size b in
        sym (row-again after (rw (g, s) places.even)) ∙ ap request_words g ∙ row-again row places.even

module _ (r : Request) (row : List ℕ) (j : ServerId) (o : Option Request) (v : valid_owner o ≡ true) where
  abbrev hears : Bool
  hears = not (is_request r (shown (place_of row j))) && current r o

  pub heard_row-size : length (heard_row r row j o) ≡ length row
  unfolding heard_row
  heard_row-size = chosen-size row (j.0 - 1) (place o) hears

  pub heard_row_undone : (after : List ℕ) (old : Request) → old ≡ place_of row j → Places row → Put (heard_row r row j o) after (j.0 - 1) old → after ≡ row
  unfolding heard_row
  heard_row_undone after old e p P = undone row (j.0 - 1) (place o) after old e p hears (place-fits o v) P

  module _ (n : ℕ) (low : 1 ≤ j.0) (high : j.0 ≤ n) where
    inside : j.0 - 1 < n
    inside = omega arith

    pub heard_row-padded : Padded row n → Padded (heard_row r row j o) n
    unfolding heard_row
    heard_row-padded good = chosen-padded row (j.0 - 1) (place o) hears n inside (place-fits o v) good

    place-shows : get_or (responses_in row n) (j.0 - 1) None ≡ shown (place_of row j)
    place-shows =
        ap (λ (d : Option Request). get_or (responses_in row n) (j.0 - 1) d) (sym nobody_shown) ∙
        get_or-map shown (take n (requests_in row)) (j.0 - 1) no_request ∙
        ap shown (get_or-take n (requests_in row) (j.0 - 1) no_request inside)

    pub heard_row-shown : responses_in (heard_row r row j o) n ≡ heard r (responses_in row n) j o
    unfolding heard_row heard
    heard_row-shown = rw place-shows (chosen-shown row (j.0 - 1) (place o) hears n o inside (place-fits o v) (shown-place o v))
