-- The invariant of `script_stream::answer_part`: the state is valid, and the bytes that are done are answered piece by piece. Each call uses a
-- byte at least of those that are left.
use Rattle.std.proofs.Common.{length, ◌-◌}
use Rattle.script_stream.proofs.ReadLaws.{Working}
use Rattle.script_stream.proofs.answer_part.Given as goal

abbrev pub invariant-loop-done : goal.invariant-loop-done
invariant-loop-done g l = Working l.initial.w l.part l.initial.out l.w l.out l.done

abbrev pub decreases-loop-done : goal.decreases-loop-done
decreases-loop-done g l = length l.part - l.done
