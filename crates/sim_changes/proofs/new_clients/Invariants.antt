-- The first i clients are put.
use Rattle.std.proofs.Common.{ℕ}
use Rattle.system.specs.Numbered.{client_no}
use Rattle.sim_changes.specs.Inner.{new_client}
use Rattle.sim_changes.proofs.Opening.{Putting}
use Rattle.sim_changes.proofs.new_clients.Given as goal

abbrev pub invariant-loop-i : goal.invariant-loop-i
invariant-loop-i l = Putting (λ (i : ℕ). new_client l.n l.m (client_no i)) l.initial.w l.clients l.w l.i
