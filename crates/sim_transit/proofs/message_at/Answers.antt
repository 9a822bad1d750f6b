-- `sim_transit::message_at` meets its contract: the words that are lent are the slot's last five.
use Rattle.sim_transit.proofs.ValidLaws.{message-lent}
use Rattle.sim_transit.proofs.message_at.Goals as goal

pub returns : goal.returns
returns c = search message-lent
