-- `slips::put_all` meets its contract: what was put on an empty sheet ends within it.
use Rattle.text_sheet.proofs.SheetLaws.{placed}
use Rattle.slips.proofs.put_all.Goals as goal

pub returns-in-Each : goal.returns-in-Each
returns-in-Each c = placed _ _ _ _ c.put_slips.ensures

pub returns-in-Last : goal.returns-in-Last
returns-in-Last c = placed _ _ _ _ c.put_slips-in-Last.ensures

pub returns-in-Mail : goal.returns-in-Mail
returns-in-Mail c = placed _ _ _ _ c.put_slips_mail.ensures

pub returns-in-Boxes : goal.returns-in-Boxes
returns-in-Boxes c = placed _ _ _ _ c.put_slips_boxes.ensures
