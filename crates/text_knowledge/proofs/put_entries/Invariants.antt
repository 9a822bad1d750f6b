-- After i turns the receiver's first i entries stand there.
use Rattle.std.proofs.Common.{◌≡◌}
use lib.ListN.{take}
use Rattle.sim_layout.specs.Layout.{view}
use Rattle.system.specs.Index.{index_of}
use Rattle.text_knowledge.specs.Boxes.{entries_text}
use Rattle.text_sheet.specs.Sheet.{sheet, puts}
use Rattle.text_knowledge.proofs.put_entries.Given as goal

abbrev pub invariant-loop-i : goal.invariant-loop-i
invariant-loop-i l = sheet l.out l.end ≡ puts (entries_text (take l.i (index_of l.r (view l.w).transit))) (sheet l.initial.out l.initial.end)
