-- The two tests say whether the text fits whole.
use Rattle.std.proofs.Common.{arith}
use Rattle.text_sheet.proofs.SheetLaws.{put_not, put_whole}
use Rattle.text_sheet.proofs.put.Goals as goal

pub returns-then-out-at : goal.returns-then-out-at
returns-then-out-at c = put_not _ _ _ (omega arith)

pub returns-then-out-at-2 : goal.returns-then-out-at-2
returns-then-out-at-2 c = put_not _ _ _ (omega arith)

pub returns : goal.returns
returns c = put_whole _ _ _ _ _ (omega arith) c.put_bytes.ensures
