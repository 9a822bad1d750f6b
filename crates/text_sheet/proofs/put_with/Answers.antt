-- `text_sheet::put_with` meets its contract: the number goes behind the text.
use Rattle.text_sheet.proofs.SheetLaws.{then}
use Rattle.text_sheet.proofs.put_with.Goals as goal

pub returns : goal.returns
returns c = then _ _ _ c.put-p.ensures c.put_number.ensures
