-- `sim_layout::number_at` meets its contract: the slots are lent, and slot i of them is the simulation's.
use native.Mathlib.Omega.{arith}
use mathlib.Core.Path.{◌∙◌}
use Rattle.sim_layout.proofs.ReadLaws.{words_long, slot_lent, number-said}
use Rattle.sim_layout.proofs.number_at.Goals as goal

pub slice_bounds-number_at-end : goal.slice_bounds-number_at-end
slice_bounds-number_at-end c = omega (arith, words_long _ c.requires.0)

pub number_at-requires : goal.number_at-requires
number_at-requires c = slot_lent _ c.requires.0 _ c.requires.1

pub returns : goal.returns
returns c = c.number_at.ensures ∙ number-said c.args.w.now c.args.i
