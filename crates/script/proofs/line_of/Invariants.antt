-- The bytes before byte i are copied.
use Rattle.script_lines.proofs.PutLaws.{Copied}
use Rattle.script.specs.State.{view}
use Rattle.script.proofs.line_of.Given as goal

abbrev pub invariant-loop-i : goal.invariant-loop-i
invariant-loop-i l = Copied l.initial.line l.line 0 (view l.w).line l.i
