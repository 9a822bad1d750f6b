-- The invariant: the flags before flag i are counted.
use Rattle.sim_blocks.proofs.FlagLaws.{Counting}
use Rattle.sim_blocks.proofs.flags_set.Given as goal

abbrev pub invariant-loop-i : goal.invariant-loop-i
invariant-loop-i l = Counting l.words l.count l.i
