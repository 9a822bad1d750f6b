-- The record decides, then the message's numbers, then what it asks of a server.
use Rattle.server.proofs.RecordLaws.{server-padded}
use Rattle.server.proofs.CallLaws.{message_broken, message-range, message-taken, message_not}
use Rattle.server.proofs.message_row.Goals as goal

pub returns-then-not-valid_row : goal.returns-then-not-valid_row
returns-then-not-valid_row c = search message_broken

pub returns-then-not-valid_message : goal.returns-then-not-valid_message
returns-then-not-valid_message c = search message-range

pub take_row-requires : goal.take_row-requires
take_row-requires c = server-padded _ _ c.valid_row.ensures c.if-not-valid_row.false

pub returns-in-Some : goal.returns-in-Some
returns-in-Some c = search message-taken

pub returns-in-None : goal.returns-in-None
returns-in-None c = search message_not
