-- A word of each row moves back in a turn, from the last on, and the two new words stand before them.
use Rattle.std.proofs.Common.{arith}
use Rattle.sim_index.proofs.RowLaws.{opened-none, opened-more, opened-all}
use Rattle.sim_index.proofs.insert.Goals as goal

pub loop-i-init : goal.loop-i-init
loop-i-init c = record { low = omega arith; rows = search (arith, opened-none) }

pub loop-i-preserved : goal.loop-i-preserved
loop-i-preserved c = record { low = omega arith; rows = search (arith, opened-more) }

pub returns : goal.returns
returns c = search (arith, opened-all)
