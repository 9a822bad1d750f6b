-- What is left of the part prints behind what is printed.
use Rattle.script.proofs.FeedLaws.{Feeding}
use Rattle.script.proofs.take_all.Given as goal

abbrev pub invariant-loop-used : goal.invariant-loop-used
invariant-loop-used l = Feeding l.initial.w l.input l.initial.out l.w l.out l.used l.at
