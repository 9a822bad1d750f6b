-- Decimal numbers as bytes: digits without a leading zero. The digit 0 is byte 48, and 9 is 57.
-- Printing is for any number; reading takes the largest number that is read.
use Rattle.std.specs.Prelude.{ℕ, zero, suc, ◌+◌, ◌-◌, ◌*◌, ◌/◌, ◌%◌, Bool, true, false, ◌&&◌, List, [], ◌∷◌, ◌++◌, eqb, leb, ltb, length, if◌then◌else◌, Some, None, Option}
use Rattle.ids.specs.Choice.{maybe}

-- the largest number of 32 bits, and the most digits that such a number has
abbrev pub largest32 : ℕ
largest32 = 4294967295

abbrev pub digits32 : ℕ
digits32 = 10

abbrev pub is_digit : ℕ → Bool
is_digit b = leb 48 b && leb b 57

-- x with one more digit behind it, up to a limit
unfoldable pub digit_up_to : ℕ → ℕ → ℕ → Option ℕ
digit_up_to limit x b = if is_digit b && leb (10 * x + (b - 48)) limit then Some (10 * x + (b - 48)) else None

-- x with the digits l behind it
unfoldable pub digits_up_to : ℕ → ℕ → List ℕ → Option ℕ
digits_up_to limit x [] = Some x
digits_up_to limit x (b ∷ l) = maybe (digit_up_to limit x b) None (λ y. digits_up_to limit y l)

-- the number that these bytes are, if they are one
unfoldable pub number_up_to : ℕ → List ℕ → Option ℕ
number_up_to limit [] = None
number_up_to limit (b ∷ l) = if eqb b 48 && ltb 0 (length l) then None else digits_up_to limit 0 (b ∷ l)

abbrev pub number : List ℕ → Option ℕ
number = number_up_to largest32

-- the last w digits of x, or all of them if they are fewer; `one` says whether x has only one
-- (it is an argument to match on, so that the recursion ends where a literal is computed)
unfoldable pub last_digits : ℕ → Bool → ℕ → List ℕ
last_digits zero one x = []
last_digits (suc w) true x = (48 + x) ∷ []
last_digits (suc w) false x = last_digits w (ltb (x / 10) 10) (x / 10) ++ ((48 + x % 10) ∷ [])

-- x in decimal: no number x has more than x + 1 digits
unfoldable pub decimal : ℕ → List ℕ
decimal x = last_digits (suc x) (ltb x 10) x
