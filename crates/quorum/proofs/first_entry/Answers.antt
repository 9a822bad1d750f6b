-- `quorum::first_entry` meets its contract: each return is one case of the definition.
use Rattle.quorum.proofs.ReturnLaws.{first_try, first-asks, first-hears}
use Rattle.quorum.proofs.first_entry.Goals as goal

pub returns-then-i-le1 : goal.returns-then-i-le1
returns-then-i-le1 c = search first_try

pub returns-then-i-m : goal.returns-then-i-m
returns-then-i-m c = search first-asks

pub returns : goal.returns
returns c = search first-hears
