-- Numbers as bytes, little-endian, and rows of numbers laid out at given widths.
use Rattle.std.specs.Prelude.{ℕ, zero, suc, ◌+◌, ◌*◌, ◌/◌, ◌%◌, List, [], ◌∷◌, ◌++◌, take, drop}

-- x in w bytes, the lowest first
abbrev pub little_endian : ℕ → ℕ → List ℕ
little_endian zero x = []
little_endian (suc w) x = x % 256 ∷ little_endian w (x / 256)

-- the number that these bytes are
abbrev pub number : List ℕ → ℕ
number [] = 0
number (b ∷ bs) = b + 256 * number bs

-- a number for each width, one after another
unfoldable pub encode : List ℕ → List ℕ → List ℕ
encode [] xs = []
encode (w ∷ ws) [] = []
encode (w ∷ ws) (x ∷ xs) = little_endian w x ++ encode ws xs

-- the numbers that stand one after another at these widths
unfoldable pub decode : List ℕ → List ℕ → List ℕ
decode [] s = []
decode (w ∷ ws) s = number (take w s) ∷ decode ws (drop w s)

-- how many bytes these widths take
abbrev pub total : List ℕ → ℕ
total [] = 0
total (w ∷ ws) = w + total ws
