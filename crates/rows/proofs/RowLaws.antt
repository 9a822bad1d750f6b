-- The row of so many words that holds a list of requests: it is a queue in good order, and every queue in good order is such a row.
use Prim.Native.Nat.{ℕ, zero, suc, ◌+◌, ◌*◌, ◌-◌, ◌≤◌}
use native.Mathlib.Omega.{arith}
use mathlib.Core.Path.{◌≡◌, refl, sym, ap, ◌∙◌}
use mathlib.Core.Bool.{true}
use mathlib.Core.List.{List, [], ◌∷◌, ◌++◌}
use lib.ListN.{length, drop, replicate, length-append, length-replicate, replicate-append-replicate}
use lib.Seq.{take_at, drop_at}
use Rattle.ids.specs.Lists.{every}
use Rattle.ids.specs.Requests.{no_request}
use Rattle.ids.specs.declared.Request.{Request}
use Rattle.ids.proofs.ListLaws.{every_append, every-same}
use Rattle.rows.specs.Rows.{request_words, requests_in, row_of, queue_of, fits_place, Padded}
use Rattle.rows.specs.Queues.{Holds}
use Rattle.rows.proofs.WordLaws.{words-empty}
use Rattle.rows.proofs.QueueLaws.{holding, length-queue, holds_row, holds-still}

pub row_kept : (row : List ℕ) (len : ℕ) → Padded row len → row_of (length row) (queue_of row len) ≡ row
row_kept row len good = sym (holds_row row row len (queue_of row len) (holds-still row len good))

pub length-words : (l : List Request) → length (request_words l) ≡ 2 * length l
unfolding request_words
length-words [] = refl
length-words (q ∷ l) = let e = length-words l in omega arith

pub length_row_of : (size : ℕ) (l : List Request) → 2 * length l ≤ size → length (row_of size l) ≡ size
unfolding row_of
length_row_of size l h = rw (length-append, length-words, length-replicate) (omega arith)

-- behind a queue all words are 0
pub row-behind : (row : List ℕ) (len : ℕ) → Padded row len → drop (2 * len) row ≡ replicate (length row - 2 * len) 0
unfolding row_of
row-behind row len good =
    let q : List Request = queue_of row len in
    let l : length q ≡ len = length-queue row len good in
    let n : length (request_words q) ≡ 2 * len = length-words q ∙ rw l in
    let e = ap (drop (2 * len)) (sym (row_kept row len good)) ∙ drop_at (request_words q) (replicate (length row - 2 * length q) 0) (2 * len) n in
    rw l at e

next_place : (n : ℕ) → 2 * suc n ≡ suc (suc (2 * n))
next_place n = omega arith

requests-zeros : (n : ℕ) → requests_in (replicate (2 * n) 0) ≡ replicate n no_request
unfolding requests_in
requests-zeros zero = refl
requests-zeros (suc n) = rw (next_place n) (ap (λ (l : List Request). no_request ∷ l) (requests-zeros n))

requests-words : (l : List Request) (ws : List ℕ) → requests_in (request_words l ++ ws) ≡ l ++ requests_in ws
unfolding requests_in request_words
requests-words [] ws = refl
requests-words (q ∷ l) ws = ap (λ (x : List Request). q ∷ x) (requests-words l ws)

-- a row of n places
module _ (n : ℕ) (l : List Request) (room : length l ≤ n) where
  pub row_of-requests : requests_in (row_of (2 * n) l) ≡ l ++ replicate (n - length l) no_request
  unfolding row_of
  row_of-requests =
      let e : 2 * n - 2 * length l ≡ 2 * (n - length l) = omega arith in
      rw (requests-words, e, requests-zeros)

  pub row_of-queue : queue_of (row_of (2 * n) l) (length l) ≡ l
  row_of-queue = rw row_of-requests (take_at l (replicate (n - length l) no_request) (length l) refl)

  pub row_of-padded : every fits_place l ≡ true → Padded (row_of (2 * n) l) (length l)
  row_of-padded small =
      let k = length_row_of (2 * n) l (omega arith) in
      let m : length (requests_in (row_of (2 * n) l)) ≡ n = rw (row_of-requests, length-append, length-replicate) (omega arith) in
      (holding (row_of (2 * n) l) (row_of (2 * n) l) (length l) (n - length l) l refl
      (record {
        even = omega arith;
        small = rw row_of-requests
            (every_append fits_place l (replicate (n - length l) no_request) small (every-same fits_place (n - length l) no_request refl));
      })
      row_of-requests refl).good

-- a list in a row of so many words
pub row_of-holds : (row : List ℕ) (n : ℕ) (l : List Request) → length row ≡ 2 * n → length l ≤ n → every fits_place l ≡ true
    → Holds row (row_of (length row) l) (length l) l
row_of-holds row n l e h f =
    rw e (record { size = length_row_of (2 * n) l (omega arith) ∙ sym e; good = row_of-padded n l h f; list = row_of-queue n l h })

pub row_of-none : (size n : ℕ) → 2 * n ≤ size → row_of size (replicate n no_request) ≡ replicate size 0
unfolding row_of
row_of-none size n h =
    let e : 2 * n + (size - 2 * n) ≡ size = omega arith in
    rw (words-empty, length-replicate, replicate-append-replicate, e)
