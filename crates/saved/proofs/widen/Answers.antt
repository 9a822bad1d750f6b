-- `saved::widen` meets its contract: the words are copied in front, and what stands behind them is zeroed.
use Rattle.saved.proofs.FormLaws.{widened}
use Rattle.saved.proofs.widen.Goals as goal

pub returns : goal.returns
returns c = search widened
