-- `quorum::event_at` meets its contract: each return is one case of the definition.
use Rattle.quorum.proofs.ReturnLaws.{in_first, in_restart, in_second}
use Rattle.quorum.proofs.event_at.Goals as goal

pub returns-then-i-first : goal.returns-then-i-first
returns-then-i-first c = search in_first

pub returns-then-i-second : goal.returns-then-i-second
returns-then-i-second c = search in_restart

pub returns : goal.returns
returns c = search in_second
