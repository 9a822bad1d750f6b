-- `sim_layout::entry_at` meets its contract: the messages and their index are lent, and what is listed in them is listed in the simulation's.
use native.Mathlib.Omega.{arith}
use Rattle.sim_layout.proofs.ReadLaws.{words_long, lent-sized}
use Rattle.sim_layout.proofs.EntryLaws.{held-lent, entries_lent}
use Rattle.sim_layout.proofs.entry_at.Goals as goal

pub bounds-w-4 : goal.bounds-w-4
bounds-w-4 c = omega (arith, words_long _ c.requires.0)

pub overflow_cast-len : goal.overflow_cast-len
overflow_cast-len c = record { fits = omega (arith, (lent-sized _ c.requires.0).few) }

pub slice_bounds-read_entry-end : goal.slice_bounds-read_entry-end
slice_bounds-read_entry-end c = omega (arith, words_long _ c.requires.0)

pub read_entry-requires : goal.read_entry-requires
read_entry-requires c = (held-lent _ c.requires.0, c.requires.1)

pub returns : goal.returns
returns c = entries_lent _ c.requires.0 _ _ _ c.read_entry.ensures
