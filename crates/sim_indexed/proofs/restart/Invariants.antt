-- Before entry `at` the server's first messages, one for each entry before it, are pending.
use Rattle.sim_indexed.proofs.RestartLaws.{Restarting}
use Rattle.sim_indexed.proofs.restart.Given as goal

abbrev pub invariant-loop-at : goal.invariant-loop-at
invariant-loop-at l = Restarting l.len l.p l.end l.initial.t l.t l.at
