-- A place is looked at, and the last one was.
use Rattle.rows.proofs.SearchLaws.{look_on, look_found, look_ended}
use Rattle.rows.proofs.find.Goals as goal

pub returns-then-matches : goal.returns-then-matches
returns-then-matches c = search look_found

pub loop-i-preserved : goal.loop-i-preserved
loop-i-preserved c = search look_on

pub returns : goal.returns
returns c = search (look_ended, c.loop-i.auto.i-end)
