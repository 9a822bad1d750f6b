-- `sim_index::add` meets its contract: behind the receiver's entries the card's number and mark are put in, and the count is one more.
use native.Mathlib.Omega.{arith}
use mathlib.Core.Path.{◌∙◌}
use lib.ListN.{length-set}
use Rattle.sim_index.proofs.EntryLaws.{entries_few, next-asked, next-within, put-left, added_is}
use Rattle.sim_index.proofs.add.Goals as goal

pub start-at-requires : goal.start-at-requires
start-at-requires c = search next-asked

pub insert-requires : goal.insert-requires
insert-requires c =
    let within = next-within _ _ _ c.requires.0 _ c.start-at.ensures in
    (within, c.requires.1, c.requires.0.size)

pub bounds-x-p : goal.bounds-x-p
bounds-x-p c =
    let within = next-within _ _ _ c.requires.0 _ c.start-at.ensures in
    let left = put-left _ _ _ c.requires.0 _ _ _ _ within c.requires.1 c.insert.ensures in
    omega (arith, left.size, c.requires.0.size, c.requires.0.place)

pub overflow_add-x : goal.overflow_add-x
overflow_add-x c =
    let within = next-within _ _ _ c.requires.0 _ c.start-at.ensures in
    let left = put-left _ _ _ c.requires.0 _ _ _ _ within c.requires.1 c.insert.ensures in
    record { fits = omega (arith, left.count, entries_few _ _ _ c.requires.0, c.requires.1) }

pub bounds-x-p-2 : goal.bounds-x-p-2
bounds-x-p-2 c =
    let within = next-within _ _ _ c.requires.0 _ c.start-at.ensures in
    let left = put-left _ _ _ c.requires.0 _ _ _ _ within c.requires.1 c.insert.ensures in
    omega (arith, left.size, c.requires.0.size, c.requires.0.place)

pub shape_of-x : goal.shape_of-x
shape_of-x c =
    let within = next-within _ _ _ c.requires.0 _ c.start-at.ensures in
    let left = put-left _ _ _ c.requires.0 _ _ _ _ within c.requires.1 c.insert.ensures in
    length-set c.insert.new.x _ _ ∙ left.size

pub returns : goal.returns
returns c = search added_is
