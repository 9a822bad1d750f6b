-- `sim_indexed::list_slot` meets its contract: the card of slot i joins those before it, behind the table.
use Rattle.sim_indexed.proofs.ListingLaws.{slot_card, slot-may, slot-listed, slot-size}
use Rattle.sim_indexed.proofs.list_slot.Goals as goal

pub card_at-c-requires : goal.card_at-c-requires
card_at-c-requires c = search slot_card

pub add-requires : goal.add-requires
add-requires c = slot-may _ _ c.requires _ c.card_at-c.ensures

pub shape_of-t : goal.shape_of-t
shape_of-t c = search slot-size

pub returns : goal.returns
returns c = search slot-listed
