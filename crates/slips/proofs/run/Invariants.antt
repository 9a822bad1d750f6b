-- From turn to turn the state stays valid.
use Rattle.std.proofs.Common.{◌≡◌, true, ◌≤◌, length}
use Rattle.script.specs.State.{valid}
use Rattle.script.specs.Calls.{max_ending}
use Rattle.slips.proofs.run.Given as goal

abbrev pub invariant-loop : goal.invariant-loop
invariant-loop g l = (valid l.w ≡ true) × (max_ending ≤ length l.out)
