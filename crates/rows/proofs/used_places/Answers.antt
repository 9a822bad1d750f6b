-- One place more, and all of them.
use Rattle.rows.proofs.GoodLaws.{counting_more, counting_all, empty-at}
use Rattle.rows.proofs.used_places.Goals as goal

pub loop-i-preserved : goal.loop-i-preserved
loop-i-preserved c = search (counting_more, empty-at)

pub returns : goal.returns
returns c = search counting_all
