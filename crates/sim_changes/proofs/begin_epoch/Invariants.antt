-- The flags of the first i servers are put.
use Rattle.sim_changes.proofs.Epochs.{Flagging}
use Rattle.sim_changes.proofs.begin_epoch.Given as goal

abbrev pub invariant-loop-i : goal.invariant-loop-i
invariant-loop-i l = Flagging l.initial.w l.k.0 l.n l.w l.i
