-- Each turn puts one box.
use Rattle.text_knowledge.proofs.BoxLaws.{boxes_none, boxes_more}
use Rattle.text_knowledge.proofs.put_boxes_of.Goals as goal

pub loop-i-init : goal.loop-i-init
loop-i-init g c = λ kind a. boxes_none _ _ _

pub loop-i-preserved : goal.loop-i-preserved
loop-i-preserved g c =
    λ kind a. boxes_more kind _ c.loop-i.i _ (c.loop-i.invariant kind a) (rw (a _ _ c.receiver.ensures) at c.put_box-end.ensures)
