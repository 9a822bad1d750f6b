-- `sim_transit::find_present` meets its contract: the search's slot has the number, or no slot has it.
use Rattle.sim_transit.proofs.FindLaws.{present_end, present-other, present-found}
use Rattle.sim_transit.proofs.find_present.Goals as goal

pub returns-then-len-i : goal.returns-then-len-i
returns-then-len-i c = search present_end

pub returns-then-t-i : goal.returns-then-t-i
returns-then-t-i c = search present-other

pub returns : goal.returns
returns c = search present-found
