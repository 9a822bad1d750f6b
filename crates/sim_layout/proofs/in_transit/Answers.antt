-- `sim_layout::in_transit` meets its contract: the word is the number of messages in transit.
use native.Mathlib.Omega.{arith}
use Rattle.sim_layout.proofs.ReadLaws.{words_long, lent-sized}
use Rattle.sim_layout.proofs.in_transit.Goals as goal

pub bounds-w-4 : goal.bounds-w-4
bounds-w-4 c = omega (arith, words_long _ c.requires)

pub overflow_cast-result : goal.overflow_cast-result
overflow_cast-result c = record { fits = omega (arith, (lent-sized _ c.requires).few) }
