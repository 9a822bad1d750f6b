-- The invariant: the words before place i are copied.
use Rattle.std.proofs.Common.{◌≡◌, take}
use Rattle.rows.proofs.copy.Given as goal

abbrev pub invariant-loop-i : goal.invariant-loop-i
invariant-loop-i l = take l.i l.to ≡ take l.i l.from
