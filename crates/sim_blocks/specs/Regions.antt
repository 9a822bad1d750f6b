-- A slice of words as blocks of one size: what f makes of each of the first so many.
use Rattle.std.specs.Prelude.{ℕ, zero, suc, List, [], ◌∷◌, take, drop}

module _ {A : Type 0} (size : ℕ) (f : List ℕ → A) where
  unfoldable pub blocks : ℕ → List ℕ → List A
  blocks zero l = []
  blocks (suc count) l = f (take size l) ∷ blocks count (drop size l)

-- the words of a region, which begins at word `from`
abbrev pub region : ℕ → ℕ → List ℕ → List ℕ
region from size l = take size (drop from l)
