-- `sim_transit::number_at` meets its contract: a slot's first word is its message's number.
use Rattle.sim_transit.proofs.SlotLaws.{number_at}
use Rattle.sim_transit.proofs.number_at.Goals as goal

pub returns : goal.returns
returns c = search number_at
