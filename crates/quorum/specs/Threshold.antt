-- The default threshold for n servers: two thirds of n, rounded up. Document 01 says usual threshold.
use Rattle.std.specs.Prelude.{ℕ, ◌+◌, ◌-◌, ◌*◌, ◌/◌, ◌≤◌, ◌<◌, [], ◌∷◌, if◌then◌else◌, Some, None, Option}
use Rattle.ids.specs.Limits.{within, max_servers}
use Rattle.ids.specs.Refusals.{code, Says, accepts, refuses}
use Rattle.ids.specs.declared.Refusal.TheVariants.{ParameterOutOfRange}

unfoldable pub threshold_of : ℕ → Option ℕ
threshold_of n = if within n max_servers then Some ((2 * n + 2) / 3) else None

-- the answers in document 01's numbers: the threshold
abbrev pub threshold_says : Option ℕ → Says ℕ
threshold_says (Some t) = accepts (t ∷ [])
threshold_says None = refuses (code ParameterOutOfRange)

unfoldable pub default_says : ℕ → Says ℕ
default_says n = if within n max_servers then accepts ((2 * n + 2) / 3 ∷ []) else refuses 7

-- t is the least whole number that is at least two thirds of n
pub record TwoThirds (n t : ℕ) : Type 0 where
  pub enough : 2 * n ≤ 3 * t
  pub least : 3 * t < 2 * n + 3

-- the most faults with which it is accepted: the largest f with 3 f below n
abbrev pub most_faults : ℕ → ℕ
most_faults n = (n - 1) / 3
