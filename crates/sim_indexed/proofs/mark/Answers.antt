-- `sim_indexed::mark` meets its contract: the message's entry is found and marked, and then its slot.
use Rattle.sim_indexed.proofs.ChangeLaws.{change_card, change_sized, mark-entry, mark-slot, marks_same, marks_both}
use Rattle.sim_indexed.proofs.mark.Goals as goal

pub card_at-c-requires : goal.card_at-c-requires
card_at-c-requires c = change_card _ _ _ c.requires.0 c.requires.1

pub find_entry-at-requires : goal.find_entry-at-requires
find_entry-at-requires c = change_sized _ _ _ c.requires.0 c.requires.1 _ c.card_at-c.ensures

pub put_mark-requires : goal.put_mark-requires
put_mark-requires c = mark-entry _ _ _ c.requires.0 c.requires.1 _ c.card_at-c.ensures _ c.find_entry-at.ensures

pub put_mark-requires-2 : goal.put_mark-requires-2
put_mark-requires-2 c = mark-slot _ _ _ c.requires.0 c.requires.1 _ c.card_at-c.ensures _ c.find_entry-at.ensures _ c.put_mark.ensures

pub shape_of-t : goal.shape_of-t
shape_of-t c = marks_same _ _ _ c.requires.0 c.requires.1 _ c.card_at-c.ensures _ c.find_entry-at.ensures _ c.put_mark.ensures _ c.put_mark-2.ensures

pub returns : goal.returns
returns c = marks_both _ _ _ c.requires.0 c.requires.1 _ c.card_at-c.ensures _ c.find_entry-at.ensures _ c.put_mark.ensures _ c.put_mark-2.ensures
