-- The words of a line: bytes that single spaces divide.
use Rattle.std.specs.Prelude.{ℕ, Bool, true, false, ◌&&◌, List, [], ◌∷◌, ◌++◌, eqb, if◌then◌else◌, Some, None, Option}
use Prim.Native.Char.{code}
use Prim.Native.String.{String, [] as end, ◌∷◌ as ◌then◌}

-- a text's bytes; ours are ASCII
abbrev pub text : String → List ℕ
text end = []
text (c then s) = code c ∷ text s

abbrev pub space : ℕ
space = 32

abbrev pub newline : ℕ
newline = 10

unfoldable pub same : List ℕ → List ℕ → Bool
same [] [] = true
same [] (c ∷ k) = false
same (b ∷ l) [] = false
same (b ∷ l) (c ∷ k) = eqb b c && same l k

-- the bytes before the first space
unfoldable pub word : List ℕ → List ℕ
word [] = []
word (b ∷ l) = if eqb b space then [] else b ∷ word l

-- what stands behind the first space, if there is one
unfoldable pub rest : List ℕ → Option (List ℕ)
rest [] = None
rest (b ∷ l) = if eqb b space then Some l else rest l

-- words with a space between each two
unfoldable pub spaced : List (List ℕ) → List ℕ
spaced [] = []
spaced (w ∷ []) = w
spaced (w ∷ v ∷ ws) = w ++ space ∷ spaced (v ∷ ws)
