-- The index made so far is that of the slots before slot i.
use Rattle.sim_indexed.specs.Indexed.{table}
use Rattle.sim_indexed.proofs.ListingLaws.{Making}
use Rattle.sim_indexed.proofs.valid.Given as goal

abbrev pub invariant-loop-i : goal.invariant-loop-i
invariant-loop-i l = Making l.n l.clients l.sent l.len (table l.t) l.made l.i
