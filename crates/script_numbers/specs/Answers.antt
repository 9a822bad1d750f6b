-- How the code says which number some bytes are, if they are one.
use Rattle.std.specs.Prelude.{ℕ, [], ◌∷◌, Some, None, Option}
use Rattle.ids.specs.Choice.{maybe}
use Rattle.ids.specs.Refusals.{code, Says, accepts, refuses}
use Rattle.ids.specs.declared.Refusal.TheVariants.{BadLine}

-- the same in document 01's numbers: a line without its number is 16
abbrev pub reading_says : Option ℕ → Says ℕ
reading_says None = refuses (code BadLine)
reading_says (Some x) = accepts (x ∷ [])

abbrev pub number_says : Option ℕ → Says ℕ
number_says o = maybe o (refuses 16) (λ x. accepts (x ∷ []))
