-- `sim_transit::remove` meets its contract: the slots behind slot i move up, and the last used one is emptied.
use Rattle.sim_transit.proofs.RemoveLaws.{removed-is}
use Rattle.sim_transit.proofs.remove.Goals as goal

pub returns : goal.returns
returns c = search removed-is
