-- After i turns the responses of the first i servers are told.
use Rattle.std.proofs.Common.{◌≡◌}
use Rattle.client_responses.specs.Row.{responses_in}
use Rattle.system.specs.Numbered.{server_no}
use Rattle.text_knowledge.specs.Knowledge.{support_text}
use Rattle.text_sheet.specs.Sheet.{sheet, puts}
use Rattle.text_knowledge.proofs.put_supports.Given as goal

abbrev pub invariant-loop-i : goal.invariant-loop-i
invariant-loop-i l = sheet l.out l.end ≡ puts (support_text l.r (server_no 1) (responses_in l.row l.i)) (sheet l.initial.out l.initial.end)
