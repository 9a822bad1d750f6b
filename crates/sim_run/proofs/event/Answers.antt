-- `sim_run::event` meets its contract: the simulation's event, and the counts after its reply.
use Rattle.std.proofs.Common.{rules}
use Rattle.sim_run.proofs.EventLaws.{goes, event-same}
use Rattle.sim_run.proofs.event.Goals as goal

pub shape_of-w : goal.shape_of-w
shape_of-w c = search (rules, event-same)

pub returns : goal.returns
returns c = search (rules, goes)
