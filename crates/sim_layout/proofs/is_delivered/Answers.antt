-- `sim_layout::is_delivered` meets its contract: the slots are lent, and slot i of them is the simulation's.
use native.Mathlib.Omega.{arith}
use mathlib.Core.Path.{◌∙◌}
use Rattle.sim_layout.proofs.ReadLaws.{words_long, slot_lent, delivered-said}
use Rattle.sim_layout.proofs.is_delivered.Goals as goal

pub slice_bounds-is_delivered-end : goal.slice_bounds-is_delivered-end
slice_bounds-is_delivered-end c = omega (arith, words_long _ c.requires.0)

pub is_delivered-requires : goal.is_delivered-requires
is_delivered-requires c = slot_lent _ c.requires.0 _ c.requires.1

pub returns : goal.returns
returns c = c.is_delivered.ensures ∙ delivered-said c.args.w.now c.args.i
