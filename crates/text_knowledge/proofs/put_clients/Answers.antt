-- Each turn puts one slip.
use Rattle.text_knowledge.proofs.KnowledgeLaws.{clients-none, clients-more}
use Rattle.text_knowledge.proofs.put_clients.Goals as goal

pub loop-i-init : goal.loop-i-init
loop-i-init c = clients-none _ _

pub loop-i-preserved : goal.loop-i-preserved
loop-i-preserved c = clients-more _ c.loop-i.i _ c.loop-i.invariant c.put_client-end.ensures
