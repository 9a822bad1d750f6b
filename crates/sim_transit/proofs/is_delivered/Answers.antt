-- `sim_transit::is_delivered` meets its contract: a slot's second word is its message's mark.
use Rattle.sim_transit.proofs.SlotLaws.{delivered-at}
use Rattle.sim_transit.proofs.is_delivered.Goals as goal

pub returns : goal.returns
returns c = search delivered-at
