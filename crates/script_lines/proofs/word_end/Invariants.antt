-- The invariant: no space stands before place i.
use Rattle.std.proofs.Common.{◌≡◌, ◌+◌, length, drop}
use Rattle.script_lines.specs.Words.{word}
use Rattle.script_lines.proofs.word_end.Given as goal

abbrev pub invariant-loop-i : goal.invariant-loop-i
invariant-loop-i l = l.at + length (word (drop l.at l.line)) ≡ l.i + length (word (drop l.i l.line))
