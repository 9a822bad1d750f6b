-- The invariant: before place i those behind `at` have moved up.
use Rattle.rows.specs.Rows.{requests_in}
use Rattle.rows.proofs.QueueLaws.{Rising, places_removed}
use Rattle.rows.proofs.remove.Given as goal

abbrev pub invariant-loop-i : goal.invariant-loop-i
invariant-loop-i l = Rising (requests_in l.initial.row) (places_removed l.initial.row l.len l.at) l.row l.i
