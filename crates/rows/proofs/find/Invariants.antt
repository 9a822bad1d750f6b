-- The invariant: nothing from `from` up to place i is wanted.
use Rattle.std.proofs.Common.{◌≡◌, ◌+◌, drop}
use Rattle.rows.specs.Rows.{queue_of}
use Rattle.rows.specs.Queues.{matching, first}
use Rattle.rows.proofs.find.Given as goal

abbrev pub invariant-loop-i : goal.invariant-loop-i
invariant-loop-i l =
    l.from + first (matching l.wanted l.r) (drop l.from (queue_of l.row l.len)) ≡ l.i + first (matching l.wanted l.r) (drop l.i (queue_of l.row l.len))
