-- The invariant: `bad` counts those before place i that fail the test.
use Rattle.rows.specs.Good.{empty}
use Rattle.rows.proofs.GoodLaws.{Counting}
use Rattle.rows.proofs.used_places.Given as goal

abbrev pub invariant-loop-i : goal.invariant-loop-i
invariant-loop-i l = Counting empty l.row l.len l.bad l.i
