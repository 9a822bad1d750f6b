-- A newline, one byte more, and the end.
use Rattle.text_sheet.proofs.LineLaws.{seeks_more, seeks_stop, seeks_all}
use Rattle.text_sheet.proofs.line_end.Goals as goal

pub returns-then-s-i-eq10 : goal.returns-then-s-i-eq10
returns-then-s-i-eq10 c = search seeks_stop

pub loop-i-preserved : goal.loop-i-preserved
loop-i-preserved c = search seeks_more

pub returns : goal.returns
returns c = search seeks_all
