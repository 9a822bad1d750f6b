-- `server_votes::standing_of` meets its contract: the owner is looked at before the queue.
use Rattle.server_votes.proofs.PartLaws.{stands_as_owner, stands_behind}
use Rattle.server_votes.proofs.standing_of.Goals as goal

pub returns-then-eq : goal.returns-then-eq
returns-then-eq c = search stands_as_owner

pub returns-else-eq : goal.returns-else-eq
returns-else-eq c = search stands_behind
