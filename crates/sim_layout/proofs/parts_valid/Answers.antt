-- `sim_layout::parts_valid` meets its contract: each return is one case of the definition.
use Rattle.sim_layout.proofs.TestLaws.{blocks_bad, transit_bad, most_high, most_noted}
use Rattle.sim_layout.proofs.parts_valid.Goals as goal

pub returns-then-not-blocks_valid : goal.returns-then-not-blocks_valid
returns-then-not-blocks_valid c = search blocks_bad

pub returns-then-not-transit_valid : goal.returns-then-not-transit_valid
returns-then-not-transit_valid c = search transit_bad

pub returns-then-n-most : goal.returns-then-n-most
returns-then-n-most c = search most_high

pub returns : goal.returns
returns c = let a = c.args in
    most_noted a.n a.m a.clients a.w.now _ c.blocks_valid.ensures
    c.if-not-blocks_valid.false _ c.transit_valid.ensures
    c.if-not-transit_valid.false _ c.if-n-most.false c.worst_down.ensures
