-- After i turns the first i clients stand there.
use Rattle.std.proofs.Common.{◌≡◌}
use Rattle.sim_layout.specs.Layout.{view}
use Rattle.text_knowledge.specs.Knowledge.{clients_text}
use Rattle.text_sheet.specs.Sheet.{sheet, puts}
use Rattle.text_knowledge.proofs.put_clients.Given as goal

abbrev pub invariant-loop-i : goal.invariant-loop-i
invariant-loop-i l = sheet l.out l.end ≡ puts (clients_text (view l.w) l.i) (sheet l.initial.out l.initial.end)
