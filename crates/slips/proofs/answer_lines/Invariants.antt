-- The invariant of `slips::answer_lines`: the state is valid and has taken in the lines before `from`. Each turn takes one.
use Rattle.std.proofs.Common.{length, ◌-◌}
use Rattle.script_stream.proofs.ReadLaws.{Taking}
use Rattle.slips.proofs.answer_lines.Given as goal

abbrev pub invariant-loop-from : goal.invariant-loop-from
invariant-loop-from g l = Taking l.initial.w l.part l.initial.out l.w l.out l.from

abbrev pub decreases-loop-from : goal.decreases-loop-from
decreases-loop-from g l = length l.part - l.from
