-- Where a line of bytes ends.
use Rattle.std.specs.Prelude.{ℕ, ◌+◌, List, [], ◌∷◌, eqb, leb, length, drop, if◌then◌else◌}
use Rattle.script_lines.specs.Words.{newline}

-- the bytes before the first newline
unfoldable pub line : List ℕ → List ℕ
line [] = []
line (b ∷ l) = if eqb b newline then [] else b ∷ line l

-- the index of the first newline at or behind `from`, or the length
unfoldable pub line_end : List ℕ → ℕ → ℕ
line_end s from = if leb from (length s) then from + length (line (drop from s)) else length s
