-- `simulation::work` meets its contract: each call says it of one variant.
use Rattle.simulation.proofs.Replies.{as_event}
use Rattle.simulation.proofs.work.Goals as goal

pub returns-in-Try : goal.returns-in-Try
returns-in-Try c = as_event c.in-Try.is c.try_enter.ensures

pub returns-in-Exit : goal.returns-in-Exit
returns-in-Exit c = as_event c.in-Exit.is c.exit.ensures

pub returns-in-Fall : goal.returns-in-Fall
returns-in-Fall c = as_event c.in-Fall.is c.fall.ensures

pub returns-in-Down : goal.returns-in-Down
returns-in-Down c = as_event c.in-Down.is c.down.ensures

pub returns-in-Up : goal.returns-in-Up
returns-in-Up c = as_event c.in-Up.is c.up.ensures

pub returns-in-Take : goal.returns-in-Take
returns-in-Take c = as_event c.in-Take.is c.take.ensures

pub returns-in-Drop : goal.returns-in-Drop
returns-in-Drop c = as_event c.in-Drop.is c.drop.ensures

pub returns-in-Miss : goal.returns-in-Miss
returns-in-Miss c = as_event c.in-Miss.is c.miss.ensures

pub returns-in-Check : goal.returns-in-Check
returns-in-Check c = as_event c.in-Check.is c.check.ensures
