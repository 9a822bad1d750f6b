-- `server::suspect_row` meets its contract: the record decides, then the owner.
use Rattle.server.proofs.RecordLaws.{server-padded}
use Rattle.server.proofs.CallLaws.{suspect_broken, suspect_nobody, suspect-done}
use Rattle.server.proofs.suspect_row.Goals as goal

pub returns-then-not-valid_row : goal.returns-then-not-valid_row
returns-then-not-valid_row c = search suspect_broken

pub delete-requires : goal.delete-requires
delete-requires c = server-padded _ _ c.valid_row.ensures c.if-not-valid_row.false

pub returns-in-None : goal.returns-in-None
returns-in-None c = search suspect_nobody

pub returns-in-Some : goal.returns-in-Some
returns-in-Some c =
    let padded = server-padded _ _ c.valid_row.ensures c.if-not-valid_row.false in
    suspect-done c.args.h _ _ _ c.valid_row.ensures c.if-not-valid_row.false padded _ c.in-Some.is _ _ c.delete.ensures c.done.ensures
