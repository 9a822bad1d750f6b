-- What is looked for in a queue, and what a change of it leaves of a row.
use Rattle.std.specs.Prelude.{ℕ, suc, ◌≡◌, Bool, List, [], ◌∷◌, eqb, length, if◌then◌else◌}
use Rattle.ids.specs.Order.{before}
use Rattle.ids.specs.Requests.{same}
use Rattle.ids.specs.declared.ClientId.{ClientId}
use Rattle.ids.specs.declared.Request.{Request}
use Rattle.rows.specs.Rows.{queue_of, Padded}
use Rattle.rows.specs.declared.Wanted.{Wanted}
use Rattle.rows.specs.declared.Wanted.TheVariants.{Client, Pair, Later}

abbrev pub is_client : ClientId → Request → Bool
is_client k x = eqb x.client.0 k.0

-- x is what is looked for: r's client, r itself, or a request behind r
abbrev pub matching : Wanted → Request → Request → Bool
matching Client r x = is_client r.client x
matching Pair r x = same x r
matching Later r x = before r x

-- the place of the first that passes the test, and the length where none does
unfoldable pub first : (Request → Bool) → List Request → ℕ
first f [] = 0
first f (x ∷ l) = if f x then 0 else suc (first f l)

-- a row that holds the list l and empty places behind it, as long as it was: this says every word
pub record Holds (row after : List ℕ) (len : ℕ) (l : List Request) : Type 0 where
  pub size : length after ≡ length row
  pub good : Padded after len
  pub list : queue_of after len ≡ l
