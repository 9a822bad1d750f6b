-- `sim_layout::message_at` meets its contract: the slots are lent, and slot i of them is the simulation's.
use native.Mathlib.Omega.{arith}
use Rattle.sim_layout.proofs.ReadLaws.{words_long, slot_lent, message-read}
use Rattle.sim_layout.proofs.message_at.Goals as goal

pub slice_bounds-message_at-end : goal.slice_bounds-message_at-end
slice_bounds-message_at-end c = omega (arith, words_long _ c.requires.0)

pub message_at-requires : goal.message_at-requires
message_at-requires c = slot_lent _ c.requires.0 _ c.requires.1

pub returns : goal.returns
returns c = search message-read
