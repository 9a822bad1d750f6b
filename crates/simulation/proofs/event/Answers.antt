-- `simulation::event` meets its contract: words that are no simulation stay, and of others `happen` says it.
use Rattle.ids.proofs.Choice.{holds}
use Rattle.simulation.proofs.Replies.{event_invalid, event-valid, event-said}
use Rattle.simulation.proofs.event.Goals as goal

pub returns-then-not-valid : goal.returns-then-not-valid
returns-then-not-valid c = let said = let a = c.args in
    event-said _ _ _ _ (event_invalid a.w.now a.e _ c.valid.ensures c.if-not-valid.true) in record { event_leaves = said.0; numbers = said.1 }

pub happen-requires : goal.happen-requires
happen-requires c = holds _ _ c.valid.ensures c.if-not-valid.false

pub returns : goal.returns
returns c = let said = let a = c.args in
    event-said _ _ _ _ (event-valid a.w.now a.e _ c.valid.ensures
    c.if-not-valid.false _ _ c.happen.ensures) in record { event_leaves = said.0; numbers = said.1 }
