-- When the words that a host hands over are a row in good order.
use Rattle.std.specs.Prelude.{ℕ, ◌*◌, Bool, ◌&&◌, List, eqb, leb, length, drop}
use Rattle.ids.specs.Lists.{every}
use Rattle.ids.specs.Requests.{same, no_request}
use Rattle.ids.specs.declared.Request.{Request}
use Rattle.rows.specs.Rows.{requests_in, fits_place}

abbrev pub empty : Request → Bool
empty q = same q no_request

unfoldable pub good_row : List ℕ → ℕ → Bool
good_row row len =
    eqb (2 * length (requests_in row)) (length row)
    && (leb len (length (requests_in row)) && (every fits_place (requests_in row) && every empty (drop len (requests_in row))))
