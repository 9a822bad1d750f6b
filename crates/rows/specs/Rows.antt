-- Requests in a row of words: two words a place, client and timestamp.
use Rattle.std.specs.Prelude.{ℕ, ◌*◌, ◌-◌, ◌≤◌, ◌≡◌, Bool, true, List, [], ◌∷◌, ◌++◌, leb, length, take, drop, replicate}
use Rattle.std.proofs.lemmas.List.Edits.{sets}
use Rattle.ids.specs.Limits.{max_client}
use Rattle.ids.specs.Lists.{every}
use Rattle.ids.specs.Requests.{no_request}
use Rattle.ids.specs.declared.Request.{Request}

-- a request's words, and a list's
abbrev pub words_of : Request → List ℕ
words_of q = q.client.0 ∷ (q.timestamp.0 ∷ [])

unfoldable pub request_words : List Request → List ℕ
request_words [] = []
request_words (q ∷ l) = q.client.0 ∷ (q.timestamp.0 ∷ request_words l)

-- the requests in the places of a row
unfoldable pub requests_in : List ℕ → List Request
requests_in [] = []
requests_in (k ∷ []) = []
requests_in (k ∷ (t ∷ ws)) = record { client = record { 0 = k }; timestamp = record { 0 = t } } ∷ requests_in ws

-- the row of so many words that holds these requests: the places behind them are empty
unfoldable pub row_of : ℕ → List Request → List ℕ
row_of size l = request_words l ++ replicate (size - 2 * length l) 0

-- a client has two bytes in a request
abbrev pub fits_place : Request → Bool
fits_place q = leb q.client.0 max_client

-- words that are places, none with a client too large
pub record Places (row : List ℕ) : Type 0 where
  pub even : length row ≡ 2 * length (requests_in row)
  pub small : every fits_place (requests_in row) ≡ true

-- r stands at place i, and every other word is as it was
pub record Put (row after : List ℕ) (i : ℕ) (r : Request) : Type 0 where
  pub words : after ≡ sets row (2 * i) (words_of r)
  pub places : Places row → Places after

-- the queue in the first len places
abbrev pub queue_of : List ℕ → ℕ → List Request
queue_of row len = take len (requests_in row)

-- a queue in good order: its length is in range, and the places behind it are empty
pub record Padded (row : List ℕ) (len : ℕ) : Type 0 where
  pub places : Places row
  pub within : len ≤ length (requests_in row)
  pub rest : drop len (requests_in row) ≡ replicate (length (requests_in row) - len) no_request
