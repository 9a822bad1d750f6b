-- The invariant: `bad` counts those before place i that fail the test.
use Rattle.rows.specs.Rows.{fits_place}
use Rattle.rows.proofs.GoodLaws.{Counting}
use Rattle.rows.proofs.wide_places.Given as goal

abbrev pub invariant-loop-i : goal.invariant-loop-i
invariant-loop-i l = Counting fits_place l.row 0 l.bad l.i
