-- `words::holds_server_of` meets its contract: the length, then the head.
use Rattle.words.proofs.RecordsLaws.{server-length, server-fits}
use Rattle.words.proofs.holds_server_of.Goals as goal

pub returns-then-has_row : goal.returns-then-has_row
returns-then-has_row c = search server-fits

pub returns-else-has_row : goal.returns-else-has_row
returns-else-has_row c = search server-length
