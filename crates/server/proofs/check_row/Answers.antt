-- `server::check_row` meets its contract: the record decides, then the owner.
use Rattle.server.proofs.RecordLaws.{server-padded}
use Rattle.server.proofs.CallLaws.{check_broken, check-idle, check-asked}
use Rattle.server.proofs.check_row.Goals as goal

pub returns-then-not-valid_row : goal.returns-then-not-valid_row
returns-then-not-valid_row c = search check_broken

pub returns-in-None : goal.returns-in-None
returns-in-None c =
    let padded = server-padded _ _ c.valid_row.ensures c.if-not-valid_row.false in
    check-idle c.args.h _ _ _ c.valid_row.ensures c.if-not-valid_row.false padded _ c.in-None.is c.still.ensures c.done.ensures

pub returns-in-Some : goal.returns-in-Some
returns-in-Some c =
    let padded = server-padded _ _ c.valid_row.ensures c.if-not-valid_row.false in
    check-asked c.args.h _ _ _ c.valid_row.ensures c.if-not-valid_row.false padded _ c.in-Some.is _ c.telling.ensures c.done-in-Some.ensures
