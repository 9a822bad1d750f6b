-- From the place reached the messages are judged as from the first one.
use Rattle.std.proofs.Common.{length, ◌-◌}
use Rattle.packet.proofs.ContentsLaws.{Judging}
use Rattle.packet.proofs.first_bad.Given as goal

abbrev pub invariant-loop-at : goal.invariant-loop-at
invariant-loop-at l = Judging l.bytes l.from l.at

abbrev pub decreases-loop-at : goal.decreases-loop-at
decreases-loop-at l = length l.bytes - l.at
