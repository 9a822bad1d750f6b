-- `sim_indexed::remove` meets its contract: the message's entry is withdrawn, and then its slot is removed.
use Rattle.sim_indexed.proofs.ChangeLaws.{change_card, withdraw_may, remove_slot, removes_same, removes_both}
use Rattle.sim_indexed.proofs.remove.Goals as goal

pub card_at-c-requires : goal.card_at-c-requires
card_at-c-requires c = change_card _ _ _ c.requires.0 c.requires.1

pub withdraw-requires : goal.withdraw-requires
withdraw-requires c = withdraw_may _ _ _ c.requires.0 c.requires.1 _ c.card_at-c.ensures

pub remove-requires : goal.remove-requires
remove-requires c = remove_slot _ _ _ c.requires.0 c.requires.1 _ c.card_at-c.ensures _ c.withdraw.ensures

pub shape_of-t : goal.shape_of-t
shape_of-t c = removes_same _ _ _ c.requires.0 c.requires.1 _ c.card_at-c.ensures _ c.withdraw.ensures _ c.remove.ensures

pub returns : goal.returns
returns c = removes_both _ _ _ c.requires.0 c.requires.1 _ c.card_at-c.ensures _ c.withdraw.ensures _ c.remove.ensures
