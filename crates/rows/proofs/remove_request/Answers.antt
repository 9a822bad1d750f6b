-- The place found is the one that goes.
use Rattle.rows.proofs.QueueLaws.{removed_where_found, unremoved}
use Rattle.rows.proofs.remove_request.Goals as goal

pub returns-then-at-len : goal.returns-then-at-len
returns-then-at-len c = search removed_where_found

pub returns : goal.returns
returns c = search unremoved
