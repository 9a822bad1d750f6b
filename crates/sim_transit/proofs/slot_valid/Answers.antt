-- `sim_transit::slot_valid` meets its contract: each arm is given what crossed.
use Rattle.sim_transit.proofs.SlotLaws.{flag_found, large_found, numbers-found}
use Rattle.sim_transit.proofs.slot_valid.Goals as goal

pub returns-then-t-at-gt1 : goal.returns-then-t-at-gt1
returns-then-t-at-gt1 c = search flag_found

pub returns-in-Some : goal.returns-in-Some
returns-in-Some c = search numbers-found

pub returns-in-None : goal.returns-in-None
returns-in-None c = search large_found
