-- The invariant: no newline stands from place `from` to place i.
use Rattle.std.proofs.Common.{◌≡◌}
use Rattle.text_sheet.specs.Lines.{line_end}
use Rattle.text_sheet.proofs.line_end.Given as goal

abbrev pub invariant-loop-i : goal.invariant-loop-i
invariant-loop-i l = line_end l.s l.from ≡ line_end l.s l.i
