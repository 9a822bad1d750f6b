-- `quorum::run_event` meets its contract: each return is one case of the definition.
use Rattle.quorum.proofs.ReturnLaws.{event-refuses, in_bounds, event-listed}
use Rattle.quorum.proofs.SaysLaws.{event-said}
use Rattle.quorum.proofs.run_event.Goals as goal

pub returns-then-not-in_range : goal.returns-then-not-in_range
returns-then-not-in_range c = let said = event-said _ _ _ _ _ (search event-refuses) in record { value = said.0; numbers = said.1 }

pub listed-requires : goal.listed-requires
listed-requires c = let a = c.args in
    in_bounds a.n a.m a.f _ c.in_range.ensures c.if-not-in_range.false

pub returns : goal.returns
returns c = let said = event-said _ _ _ _ _ (search event-listed) in record { value = said.0; numbers = said.1 }
