-- A word of each row moves up in a turn, from the first on, and 0 stands behind them.
use Rattle.std.proofs.Common.{arith}
use Rattle.sim_index.proofs.RowLaws.{closed_none, closed-more, closed_all}
use Rattle.sim_index.proofs.delete.Goals as goal

pub loop-i-init : goal.loop-i-init
loop-i-init c = search (arith, closed_none)

pub loop-i-preserved : goal.loop-i-preserved
loop-i-preserved c =
    closed-more c.args.x.now (search arith) c.args.at c.args.last (omega arith) (omega arith) c.loop-i.x c.loop-i.i (omega arith) c.loop-i.invariant
    (omega arith) (omega arith)

pub returns : goal.returns
returns c = search (arith, closed_all)
