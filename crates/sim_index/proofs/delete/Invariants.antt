-- The invariant: in both rows the words before place i have moved up, and from it on all is as it was.
use Rattle.std.proofs.Common.{◌≡◌}
use Rattle.sim_index.proofs.RowLaws.{closed}
use Rattle.sim_index.proofs.delete.Given as goal

abbrev pub invariant-loop-i : goal.invariant-loop-i
invariant-loop-i l = l.x ≡ closed l.initial.x l.at l.last l.i
