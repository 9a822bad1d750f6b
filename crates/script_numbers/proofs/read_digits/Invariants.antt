-- The invariant: `x` is the number before this byte, and what `x` becomes with the digits from it on is still to be read.
use Rattle.std.proofs.Common.{◌≡◌, drop}
use Rattle.script_numbers.specs.Decimals.{largest32, digits_up_to}
use Rattle.script_numbers.proofs.read_digits.Given as goal

abbrev pub invariant-loop-b : goal.invariant-loop-b
invariant-loop-b l = digits_up_to largest32 0 l.s ≡ digits_up_to largest32 l.x (drop l.b-index l.s)
