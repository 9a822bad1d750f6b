-- `sim_transit::find_pending` meets its contract: the search's slot has the number, or no slot has it.
use Rattle.sim_transit.proofs.FindLaws.{pending_end, pending-other, pending-gone, pending-found}
use Rattle.sim_transit.proofs.find_pending.Goals as goal

pub returns-then-len-i : goal.returns-then-len-i
returns-then-len-i c = search pending_end

pub returns-then-t-i : goal.returns-then-t-i
returns-then-t-i c = search pending-other

pub returns-then-t-i-eq1 : goal.returns-then-t-i-eq1
returns-then-t-i-eq1 c = search pending-gone

pub returns : goal.returns
returns c = search pending-found
