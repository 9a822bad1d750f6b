-- The numbers ascend if those from slot i on ascend from the last one.
use Rattle.sim_transit.proofs.ValidLaws.{Climbing}
use Rattle.sim_transit.proofs.numbers_ascend.Given as goal

abbrev pub invariant-loop-i : goal.invariant-loop-i
invariant-loop-i l = Climbing l.sent l.t l.len l.last l.i
