-- The first i clients have noted it.
use Rattle.sim_changes.proofs.Epochs.{Marking}
use Rattle.sim_changes.proofs.note_down.Given as goal

abbrev pub invariant-loop-i : goal.invariant-loop-i
invariant-loop-i l = Marking l.initial.w l.j l.clients l.w l.i
