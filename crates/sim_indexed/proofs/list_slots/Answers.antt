-- Each turn lists one slot.
use Rattle.sim_indexed.proofs.ListingLaws.{joining-slot, joining-more}
use Rattle.sim_indexed.proofs.list_slots.Goals as goal

pub list_slot-requires : goal.list_slot-requires
list_slot-requires c = search joining-slot

pub loop-i-preserved : goal.loop-i-preserved
loop-i-preserved c = search joining-more
