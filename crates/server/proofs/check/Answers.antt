-- `server::check` meets its contract: the call on the record's row, and then what was to be sent.
use Rattle.server.proofs.TurnLaws.{turns_by_value}
use Rattle.server.proofs.check.Goals as goal

pub returns : goal.returns
returns c = turns_by_value c.args.s _ _ _ _ _ _ c.check_row-t.ensures c.finish.ensures
