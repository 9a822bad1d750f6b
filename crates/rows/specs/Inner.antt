-- Definitions that only the contracts of private functions cite: no promise rests on them.
use Rattle.std.specs.Prelude.{ℕ, ◌+◌, Bool, List, [], ◌∷◌, if◌then◌else◌}
use Rattle.ids.specs.declared.Request.{Request}

-- how many fail a test
abbrev pub miss : Bool → ℕ
miss b = if b then 0 else 1

unfoldable pub misses : (Request → Bool) → List Request → ℕ
misses f [] = 0
misses f (x ∷ l) = miss (f x) + misses f l
