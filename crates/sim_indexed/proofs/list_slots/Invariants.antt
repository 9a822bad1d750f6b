-- The index is that of the slots before slot i.
use Rattle.sim_indexed.proofs.ListingLaws.{Joining}
use Rattle.sim_indexed.proofs.list_slots.Given as goal

abbrev pub invariant-loop-i : goal.invariant-loop-i
invariant-loop-i l = Joining l.from l.to l.initial.t l.t l.i
