-- `server_votes::receive` meets its contract: where the sender stands decides.
use Rattle.server_votes.proofs.ActLaws.{receives_new, receives_known}
use Rattle.server_votes.proofs.receive.Goals as goal

pub returns-in-None : goal.returns-in-None
returns-in-None c = search receives_new

pub returns-in-Some : goal.returns-in-Some
returns-in-Some c = search receives_known
