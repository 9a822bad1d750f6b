-- A sheet is a lent buffer that is filled from its start: its bytes, and the place behind what was put.
use Rattle.std.specs.Prelude.{ℕ, ◌+◌, List, [], ◌∷◌, leb, length, if◌then◌else◌}
use Rattle.std.proofs.lemmas.List.Edits.{sets}
use Rattle.script_lines.specs.Words.{newline}

pub record Sheet : Type 0 where
  pub bytes : List ℕ
  pub at : ℕ

abbrev pub sheet : List ℕ → ℕ → Sheet
sheet bytes at = record { bytes = bytes; at = at }

-- a text behind what is there if it fits whole; otherwise the sheet stays
unfoldable pub put : List ℕ → Sheet → Sheet
put t s =
    if leb (s.at + length t) (length s.bytes) then sheet (sets s.bytes s.at t) (s.at + length t)
    else s

-- texts, one after another
unfoldable pub puts : List (List ℕ) → Sheet → Sheet
puts [] s = s
puts (t ∷ ts) s = puts ts (put t s)

-- the end of a line
abbrev pub ends : List (List ℕ)
ends = (newline ∷ []) ∷ []
