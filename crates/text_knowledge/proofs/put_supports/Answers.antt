-- Each turn tells of one response.
use native.Mathlib.Omega.{arith}
use Rattle.text_knowledge.proofs.KnowledgeLaws.{support_none, support_more}
use Rattle.text_knowledge.proofs.put_supports.Goals as goal

pub loop-i-init : goal.loop-i-init
loop-i-init c = support_none _ _

pub loop-i-preserved : goal.loop-i-preserved
loop-i-preserved c =
    support_more _ _ _ c.requires c.loop-i.i (omega arith) _ _ c.request_at-q.ensures c.loop-i.invariant c.put_support-end.ensures
