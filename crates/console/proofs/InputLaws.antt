-- What is known of an input that has bytes.
use mathlib.Core.Path.{◌≡◌}
use Prim.Native.Nat.{ℕ, ◌≤◌}
use Rattle.console.specs.Fits.{Fits}
use Rattle.console.specs.declared.Input.{Input}
use Rattle.console.specs.declared.Input.TheVariants.{Bytes}

pub fits-bytes : (i : Input) (k most : ℕ) → i ≡ Bytes k → Fits most i → k ≤ most
fits-bytes i k most e f = rw e at f
