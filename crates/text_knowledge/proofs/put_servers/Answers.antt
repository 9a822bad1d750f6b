-- Each turn puts one slip.
use Rattle.text_knowledge.proofs.KnowledgeLaws.{servers-none, servers-more}
use Rattle.text_knowledge.proofs.put_servers.Goals as goal

pub loop-i-init : goal.loop-i-init
loop-i-init c = servers-none _ _

pub loop-i-preserved : goal.loop-i-preserved
loop-i-preserved c = servers-more _ c.loop-i.i _ c.loop-i.invariant c.put_server-end.ensures
