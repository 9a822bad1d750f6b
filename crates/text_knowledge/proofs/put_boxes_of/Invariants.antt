-- After i turns the boxes of the first i receivers stand there, whatever function the calls agree with.
use Rattle.std.proofs.Common.{◌≡◌, ℕ}
use Rattle.sim_layout.specs.Layout.{view}
use Rattle.system.specs.declared.Receiver.{Receiver}
use Rattle.text_knowledge.specs.Boxes.{boxes_of}
use Rattle.text_sheet.specs.Sheet.{sheet, puts}
use Rattle.text_knowledge.proofs.put_boxes_of.Given as goal

abbrev pub invariant-loop-i : goal.invariant-loop-i
invariant-loop-i g l =
    (kind : ℕ → Receiver) → ((i : ℕ) (r : Receiver) → goal.F-post g l.receiver i r → r ≡ kind i)
    → sheet l.out l.end ≡ puts (boxes_of kind (view l.w) l.i) (sheet l.initial.out l.initial.end)
