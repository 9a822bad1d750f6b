-- The invariant: in both rows the words behind place i have moved back, and up to it all is as it was.
use Rattle.std.proofs.Common.{◌≡◌, ◌≤◌}
use Rattle.sim_index.proofs.RowLaws.{opened}
use Rattle.sim_index.proofs.insert.Given as goal

abbrev pub invariant-loop-i : goal.invariant-loop-i
invariant-loop-i l = record { low : l.at ≤ l.i; rows : l.x ≡ opened l.initial.x l.at l.end l.number l.mark l.i }
