-- `client::upon_response` meets its contract: outside the trying section nothing changes, else the heard row is judged, and the place put back
-- where that is refused.
use native.Mathlib.Omega.{arith}
use Rattle.client.proofs.ValidLaws.{valid-padded, padded-words}
use Rattle.client.proofs.StepLaws.{respond_elsewhere, respond_heard, respond_kept, respond_undone}
use Rattle.client.proofs.upon_response.Goals as goal

pub returns-then-not-is_trying : goal.returns-then-not-is_trying
returns-then-not-is_trying c = search respond_elsewhere

pub hear-old-requires : goal.hear-old-requires
hear-old-requires c =
    let p = valid-padded _ c.requires.0 in
    (p.places, c.requires.1, omega (arith, padded-words _ _ p, c.requires.2))

pub judge-r-requires : goal.judge-r-requires
judge-r-requires c =
    (respond_heard _ _ c.requires.0 _ _ _ c.is_trying.ensures c.requires.1 c.requires.2 c.requires.3 c.if-not-is_trying.false _ _ _
    c.request_of.ensures c.hear-old.ensures.0 c.hear-old.ensures.1).padded

pub put_request-requires : goal.put_request-requires
put_request-requires c = omega (arith, padded-words _ _ (valid-padded _ c.requires.0), c.requires.1, c.requires.2)

pub returns-then-is_refused : goal.returns-then-is_refused
returns-then-is_refused c =
    let heard = respond_heard _ _ c.requires.0 _ _ _ c.is_trying.ensures c.requires.1 c.requires.2 c.requires.3 c.if-not-is_trying.false _ _ _
    c.request_of.ensures c.hear-old.ensures.0 c.hear-old.ensures.1 in
    respond_undone _ _ _ _ _ _ heard _ _ c.args.out.now _ c.judge-r.ensures _ c.is_refused.ensures _ c.if-is_refused.true c.put_request.ensures

pub returns : goal.returns
returns c =
    let heard = respond_heard _ _ c.requires.0 _ _ _ c.is_trying.ensures c.requires.1 c.requires.2 c.requires.3 c.if-not-is_trying.false _ _ _
    c.request_of.ensures c.hear-old.ensures.0 c.hear-old.ensures.1 in
    respond_kept _ _ _ _ _ _ heard _ _ c.args.out.now _ c.judge-r.ensures _ c.is_refused.ensures c.if-is_refused.false
