-- None in the remainder section.
use Rattle.text_knowledge.proofs.KnowledgeLaws.{supporters_none, supporters_some}
use Rattle.text_knowledge.proofs.put_supporters_of.Goals as goal

pub returns-in-Remainder : goal.returns-in-Remainder
returns-in-Remainder c = supporters_none _ _ _ c.in-Remainder.is

pub returns-in-Trying : goal.returns-in-Trying
returns-in-Trying c = supporters_some _ _ _ c.put_supporters.ensures c.in-Trying.is
