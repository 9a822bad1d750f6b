-- The invariant: behind place i those from `at` on have moved back.
use Rattle.std.proofs.Common.{◌≤◌}
use Rattle.rows.specs.Rows.{requests_in}
use Rattle.rows.proofs.QueueLaws.{Sinking, places_inserted}
use Rattle.rows.proofs.insert_at.Given as goal

abbrev pub invariant-loop-i : goal.invariant-loop-i
invariant-loop-i l = record { low : l.at ≤ l.i; sunk : Sinking (places_inserted l.initial.row l.len l.at l.r) (requests_in l.initial.row) l.row l.i }
