-- `sim_indexed::read_entry` meets its contract: the receiver's entries begin and end where the counts say.
use native.Mathlib.Omega.{arith}
use Rattle.sim_indexed.proofs.EntriesLaws.{first-may, last-may}
use Rattle.sim_indexed.proofs.ReadLaws.{end_after, none-there, entry-may, entry-there}
use Rattle.sim_indexed.proofs.read_entry.Goals as goal

pub start-from-requires : goal.start-from-requires
start-from-requires c = first-may _ _ c.requires.0 _ c.requires.1

pub start-end-requires : goal.start-end-requires
start-end-requires c = last-may _ _ c.requires.0 _ c.requires.1

pub overflow_sub-end : goal.overflow_sub-end
overflow_sub-end c = end_after _ _ _ c.requires.0 c.requires.1 _ _ c.start-from.ensures c.start-end.ensures

pub returns-then-end-from : goal.returns-then-end-from
returns-then-end-from c = none-there _ _ _ c.requires.0 c.requires.1 _ _ c.start-from.ensures c.start-end.ensures _ c.if-end-from.true

pub overflow_add-at : goal.overflow_add-at
overflow_add-at c = let m = entry-may _ _ _ c.requires.0 c.requires.1 _ _ c.start-from.ensures c.start-end.ensures _ c.if-end-from.false in
    record { fits = omega (arith, m.1) }

pub number_at-number-requires : goal.number_at-number-requires
number_at-number-requires c = entry-may _ _ _ c.requires.0 c.requires.1 _ _ c.start-from.ensures c.start-end.ensures _ c.if-end-from.false

pub mark_at-mark-requires : goal.mark_at-mark-requires
mark_at-mark-requires c = entry-may _ _ _ c.requires.0 c.requires.1 _ _ c.start-from.ensures c.start-end.ensures _ c.if-end-from.false

pub returns : goal.returns
returns c = entry-there _ _ _ c.requires.0 c.requires.1 _ _ c.start-from.ensures c.start-end.ensures _ c.if-end-from.false
    _ _ c.number_at-number.ensures c.mark_at-mark.ensures
