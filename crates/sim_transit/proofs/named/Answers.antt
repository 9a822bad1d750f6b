-- `sim_transit::named` meets its contract: the numbers are tested in the definition's order.
use Rattle.sim_transit.proofs.SlotLaws.{named-range, named-client, named-server, named-owner}
use Rattle.sim_transit.proofs.named.Goals as goal

pub returns-then-not-valid_fields : goal.returns-then-not-valid_fields
returns-then-not-valid_fields c = search named-range

pub returns-then-not-within_limit : goal.returns-then-not-within_limit
returns-then-not-within_limit c = search named-client

pub returns-then-not-within_limit-2 : goal.returns-then-not-within_limit-2
returns-then-not-within_limit-2 c = search named-server

pub returns : goal.returns
returns c = named-owner _ _ _ _ c.valid_fields.ensures
    c.if-not-valid_fields.false _
    c.within_limit.ensures c.if-not-within_limit.false _
    c.within_limit-2.ensures c.if-not-within_limit-2.false
