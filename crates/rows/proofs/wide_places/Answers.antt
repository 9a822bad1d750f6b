-- One place more, and all of them.
use Rattle.rows.proofs.GoodLaws.{counting_more, counting_all, fits-at}
use Rattle.rows.proofs.wide_places.Goals as goal

pub loop-i-preserved : goal.loop-i-preserved
loop-i-preserved c = search (counting_more, fits-at)

pub returns : goal.returns
returns c = counting_all _ _ _ _ _ c.loop-i.invariant _ c.requires c.loop-i-test.false
