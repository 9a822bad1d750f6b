-- One word more, and all of them.
use Rattle.std.proofs.Common.{arith}
use Rattle.rows.proofs.CopyLaws.{copying_more, copying_all}
use Rattle.rows.proofs.copy.Goals as goal

pub loop-i-preserved : goal.loop-i-preserved
loop-i-preserved c = search (arith, copying_more)

pub returns : goal.returns
returns c = search (arith, copying_all)
