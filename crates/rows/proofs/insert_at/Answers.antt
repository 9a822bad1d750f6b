-- One place more moves back, and the request is put into the one that is free.
use Rattle.std.proofs.Common.{arith}
use Rattle.rows.proofs.QueueLaws.{inserting, sinking_on, insertion, inserted_by_loop}
use Rattle.rows.proofs.insert_at.Goals as goal

pub loop-i-init : goal.loop-i-init
loop-i-init c = record { low = omega arith; sunk = search inserting }

pub loop-i-preserved : goal.loop-i-preserved
loop-i-preserved c = record { low = omega arith; sunk = search (sinking_on, insertion) }

pub returns : goal.returns
returns c = search inserted_by_loop
