-- `quorum::restart` meets its contract: each return is one case of the definition.
use Rattle.quorum.proofs.ReturnLaws.{restart-down, restart-up}
use Rattle.quorum.proofs.restart.Goals as goal

pub returns-then-i-lost : goal.returns-then-i-lost
returns-then-i-lost c = search restart-down

pub returns : goal.returns
returns c = search restart-up
