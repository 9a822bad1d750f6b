-- The first i servers are put.
use Rattle.std.proofs.Common.{ℕ}
use Rattle.system.specs.Numbered.{server_no}
use Rattle.sim_changes.specs.Inner.{new_server}
use Rattle.sim_changes.proofs.Opening.{Putting}
use Rattle.sim_changes.proofs.new_servers.Given as goal

abbrev pub invariant-loop-i : goal.invariant-loop-i
invariant-loop-i l = Putting (λ (i : ℕ). new_server l.n (server_no i)) l.initial.w l.n l.w l.i
