-- Each return is one case of the definition.
use Rattle.quorum.proofs.ReturnLaws.{not_unsafe, outside-run, event_bounds, run_element}
use Rattle.quorum.proofs.listed.Goals as goal

pub returns-then-n-f : goal.returns-then-n-f
returns-then-n-f c = search not_unsafe

pub returns-then-not-within_limit : goal.returns-then-not-within_limit
returns-then-not-within_limit c = search outside-run

pub event_at-requires : goal.event_at-requires
event_at-requires c =
    let a = c.args in
    event_bounds a.n a.m a.f a.i c.requires c.if-n-f.false _ c.events.ensures _ c.within_limit.ensures c.if-not-within_limit.false

pub returns : goal.returns
returns c = search run_element
