-- `sim_layout::find_present` meets its contract: the slots are lent, and what is found in them is found in the simulation's.
use native.Mathlib.Omega.{arith}
use Rattle.sim_layout.proofs.ReadLaws.{words_long, lent-sized, lent-ordered, found-lent}
use Rattle.sim_layout.proofs.find_present.Goals as goal

pub bounds-w-4 : goal.bounds-w-4
bounds-w-4 c = omega (arith, words_long _ c.requires)

pub overflow_cast-len : goal.overflow_cast-len
overflow_cast-len c = record { fits = omega (arith, (lent-sized _ c.requires).few) }

pub slice_bounds-find_present-end : goal.slice_bounds-find_present-end
slice_bounds-find_present-end c = omega (arith, words_long _ c.requires)

pub find_present-requires : goal.find_present-requires
find_present-requires c = search lent-ordered

pub returns : goal.returns
returns c = search found-lent
