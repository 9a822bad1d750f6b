-- `sim_index::withdraw` meets its contract: the number found is taken out with its mark, and the receiver's count is one less.
use Prim.Native.Nat.{◌<◌}
use native.Mathlib.Omega.{arith}
use mathlib.Core.Path.{◌∙◌}
use lib.ListN.{length-set}
use Rattle.sim_index.proofs.EntryLaws.{taken-left, withdrawn-is}
use Rattle.sim_index.proofs.withdraw.Goals as goal

pub delete-requires : goal.delete-requires
delete-requires c =
    let within : c.find_entry-at.result < c.args.len = omega (arith, c.find_entry-at.ensures, c.requires.1) in
    (omega (arith, within), omega (arith, within, c.requires.0.few), c.requires.0.size)

pub bounds-x-p : goal.bounds-x-p
bounds-x-p c =
    let within : c.find_entry-at.result < c.args.len = omega (arith, c.find_entry-at.ensures, c.requires.1) in
    let left = taken-left _ _ _ c.requires.0 _ _ within c.delete.ensures in
    omega (arith, left.size, c.requires.0.size, c.requires.0.place)

pub overflow_sub-x : goal.overflow_sub-x
overflow_sub-x c =
    let within : c.find_entry-at.result < c.args.len = omega (arith, c.find_entry-at.ensures, c.requires.1) in
    let left = taken-left _ _ _ c.requires.0 _ _ within c.delete.ensures in
    omega (arith, left.count, c.requires.2)

pub bounds-x-p-2 : goal.bounds-x-p-2
bounds-x-p-2 c =
    let within : c.find_entry-at.result < c.args.len = omega (arith, c.find_entry-at.ensures, c.requires.1) in
    let left = taken-left _ _ _ c.requires.0 _ _ within c.delete.ensures in
    omega (arith, left.size, c.requires.0.size, c.requires.0.place)

pub shape_of-x : goal.shape_of-x
shape_of-x c =
    let within : c.find_entry-at.result < c.args.len = omega (arith, c.find_entry-at.ensures, c.requires.1) in
    let left = taken-left _ _ _ c.requires.0 _ _ within c.delete.ensures in
    length-set c.delete.new.x _ _ ∙ left.size

pub returns : goal.returns
returns c = search withdrawn-is
