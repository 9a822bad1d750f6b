-- After i turns the first i requests stand there.
use Rattle.std.proofs.Common.{◌≡◌}
use Rattle.rows.specs.Rows.{queue_of}
use Rattle.text_knowledge.specs.Knowledge.{requests_text}
use Rattle.text_sheet.specs.Sheet.{sheet, puts}
use Rattle.text_knowledge.proofs.put_requests.Given as goal

abbrev pub invariant-loop-i : goal.invariant-loop-i
invariant-loop-i l = sheet l.out l.end ≡ puts (requests_text (queue_of l.row l.i)) (sheet l.initial.out l.initial.end)
