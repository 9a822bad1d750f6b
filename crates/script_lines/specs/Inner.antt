-- Definitions that only the contracts of private functions cite: no promise rests on them.
use Rattle.std.specs.Prelude.{ℕ, ◌+◌, List, length, drop, Some, None, Option}
use Rattle.script_numbers.specs.Decimals.{number}
use Rattle.script_lines.specs.Words.{text, word, rest}
use Rattle.ids.specs.Choice.{maybe}

-- the commands one after another, as the code holds them
abbrev pub names : List ℕ
names = text "try exit fall down up take drop miss check"

-- the number that stands before the first space from place `at` on, with the place behind that space
unfoldable pub field_at : List ℕ → ℕ → Option (ℕ × ℕ)
field_at s at =
    maybe (number (word (drop at s))) None (λ x. maybe (rest (drop at s)) None (λ r. Some (x, at + length (word (drop at s)) + 1)))
