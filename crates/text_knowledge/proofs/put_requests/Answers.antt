-- Each turn puts one request.
use native.Mathlib.Omega.{arith}
use Rattle.text_knowledge.proofs.KnowledgeLaws.{requests-none, requests-more}
use Rattle.text_knowledge.proofs.put_requests.Goals as goal

pub loop-i-init : goal.loop-i-init
loop-i-init c = requests-none _

pub loop-i-preserved : goal.loop-i-preserved
loop-i-preserved c =
    requests-more _ _ c.requires c.loop-i.i (omega arith) _ _ c.request_at.ensures c.loop-i.invariant c.put_next-end.ensures
