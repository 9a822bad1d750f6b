-- A refusal counts nothing; an accepted event counts itself, and the most holders so far.
use Rattle.sim_run.specs.Inner.{counted}
use Rattle.sim_run.proofs.counted.Goals as goal

pub returns-in-Err : goal.returns-in-Err
unfolding counted
returns-in-Err c = rw c.in-Err.is

pub returns-in-Ok : goal.returns-in-Ok
unfolding counted
returns-in-Ok c = rw (c.in-Ok.is, c.max-holding.ensures)
