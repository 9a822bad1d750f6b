-- `quorum::second_entry` meets its contract: each return is one case of the definition.
use Rattle.quorum.proofs.ReturnLaws.{second_try, second-again, second-asks, second-hears}
use Rattle.quorum.proofs.second_entry.Goals as goal

pub returns-then-i-le1 : goal.returns-then-i-le1
returns-then-i-le1 c = search second_try

pub returns-then-i-lost : goal.returns-then-i-lost
returns-then-i-lost c = search second-again

pub returns-then-i-m : goal.returns-then-i-m
returns-then-i-m c = search second-asks

pub returns : goal.returns
returns c = search second-hears
