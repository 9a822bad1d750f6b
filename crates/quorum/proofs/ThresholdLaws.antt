-- The default threshold without a division: the least whole number that is at least two thirds of n.
use Prim.Native.Nat.{ℕ, ◌+◌, ◌*◌, ◌/◌}
use native.Mathlib.Omega.{arith}
use Rattle.quorum.specs.Threshold.{TwoThirds}

pub two_thirds : (n : ℕ) → TwoThirds n ((2 * n + 2) / 3)
two_thirds n = record { enough = omega arith; least = omega arith }
