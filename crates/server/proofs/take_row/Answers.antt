-- `server::take_row` meets its contract: the address and the row decide, in this order.
use Rattle.server.proofs.TurnLaws.{takes_not, takes-full, takes}
use Rattle.server.proofs.take_row.Goals as goal

pub returns-then-ne : goal.returns-then-ne
returns-then-ne c = search takes_not

pub returns-then-m : goal.returns-then-m
returns-then-m c = search takes-full

pub returns : goal.returns
returns c = search takes
