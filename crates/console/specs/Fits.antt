-- What was read lies within the bytes that were lent.
use Rattle.std.specs.Prelude.{ℕ, ◌≤◌, ◌<◌}
use Rattle.console.specs.declared.Input.{Input}
use Rattle.console.specs.declared.Input.TheVariants.{Failed, End, Bytes}

abbrev pub Fits : ℕ → Input → Type 0
Fits most Failed = Unit {0}
Fits most End = Unit {0}
Fits most (Bytes n) = n ≤ most

-- a part that is read has a byte
abbrev pub Some : Input → Type 0
Some Failed = Unit {0}
Some End = Unit {0}
Some (Bytes n) = 0 < n
