-- The places in use are zeroed, and those behind them were 0.
use Rattle.rows.proofs.CopyLaws.{front_zero}
use Rattle.rows.proofs.clear.Goals as goal

pub returns : goal.returns
returns c = search front_zero
