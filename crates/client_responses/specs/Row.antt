-- A client's responses in a row of words: two words a place, a place for each server, and zeros where it named nobody.
use Rattle.std.specs.Prelude.{ℕ, ◌*◌, ◌-◌, Bool, ◌&&◌, ◌||◌, not, List, map, get_or, take, if◌then◌else◌, Some, None, Option}
use Rattle.std.proofs.lemmas.List.Edits.{sets}
use Rattle.ids.specs.Limits.{valid_owner}
use Rattle.ids.specs.Requests.{same, is_request, is_client, no_request}
use Rattle.ids.specs.declared.ServerId.{ServerId}
use Rattle.ids.specs.declared.Request.{Request}
use Rattle.rows.specs.Rows.{words_of, requests_in}
use Rattle.client_responses.specs.Figure1.{current}

-- a place as a response, and back
abbrev pub shown : Request → Option Request
shown q = if same q no_request then None else Some q

abbrev pub place : Option Request → Request
place None = no_request
place (Some q) = q

-- the responses of n servers, and the place of server j
abbrev pub responses_in : List ℕ → ℕ → List (Option Request)
responses_in row n = map shown (take n (requests_in row))

abbrev pub place_of : List ℕ → ServerId → Request
place_of row j = get_or (requests_in row) (j.0 - 1) no_request

-- an own response carries the current timestamp
abbrev pub own_is_current : Request → Option Request → Bool
own_is_current r o = not (is_client r.client o) || is_request r o

-- a response that request r's client cannot have: out of range, or its own with another timestamp
abbrev pub misfit : Request → Option Request → Bool
misfit r o = not (valid_owner o && own_is_current r o)

-- lines 8 and 9: the row of request r after server j named owner o
unfoldable pub heard_row : Request → List ℕ → ServerId → Option Request → List ℕ
heard_row r row j o =
    if not (is_request r (shown (place_of row j))) && current r o then sets row (2 * (j.0 - 1)) (words_of (place o))
    else row
