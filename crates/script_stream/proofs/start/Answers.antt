-- `script_stream::start` meets its contract: a new script is a valid state that has taken in nothing.
use Rattle.script_stream.proofs.ReadLaws.{started}
use Rattle.script_stream.proofs.start.Goals as goal

pub returns : goal.returns
returns c = started _ _ _ c.zeros-w.ensures c.new.ensures.value
