-- `sim_index::find_entry` meets its contract: the number is looked for among the receiver's numbers.
use native.Mathlib.Omega.{arith}
use Prim.Native.Nat.{◌+◌, ◌≤◌}
use lib.ListN.{get_or}
use Rattle.sim_index.proofs.EntryLaws.{entries_few, start-asked, entry_found}
use Rattle.sim_index.proofs.find_entry.Goals as goal

pub start-from-requires : goal.start-from-requires
start-from-requires c = search start-asked

pub overflow_cast-count : goal.overflow_cast-count
overflow_cast-count c =
    let few : c.start-from.result + get_or c.args.x.now c.args.p 0 ≤ c.args.len = omega (arith, entries_few _ _ _ c.requires, c.start-from.ensures) in
    record { fits = omega (arith, few) }

pub overflow_add-from : goal.overflow_add-from
overflow_add-from c =
    let few : c.start-from.result + get_or c.args.x.now c.args.p 0 ≤ c.args.len = omega (arith, entries_few _ _ _ c.requires, c.start-from.ensures) in
    record { fits = omega (arith, few) }

pub overflow_add-from-2 : goal.overflow_add-from-2
overflow_add-from-2 c =
    let few : c.start-from.result + get_or c.args.x.now c.args.p 0 ≤ c.args.len = omega (arith, entries_few _ _ _ c.requires, c.start-from.ensures) in
    record { fits = omega (arith, few) }

pub overflow_add-from-3 : goal.overflow_add-from-3
overflow_add-from-3 c =
    let few : c.start-from.result + get_or c.args.x.now c.args.p 0 ≤ c.args.len = omega (arith, entries_few _ _ _ c.requires, c.start-from.ensures) in
    record { fits = omega (arith, few) }

pub find-at-requires : goal.find-at-requires
find-at-requires c =
    let few : c.start-from.result + get_or c.args.x.now c.args.p 0 ≤ c.args.len = omega (arith, entries_few _ _ _ c.requires, c.start-from.ensures) in
    (omega arith, omega (arith, few, c.requires.size))

pub returns : goal.returns
returns c = search entry_found
