-- One place more moves up, and behind the last turn the last place is emptied.
use Rattle.std.proofs.Common.{arith, ◌≤◌, ◌-◌}
use Rattle.rows.proofs.QueueLaws.{removing, rising_on, removal, removed_by_loop}
use Rattle.rows.proofs.remove.Goals as goal

pub loop-i-init : goal.loop-i-init
loop-i-init c = search removing

pub loop-i-preserved : goal.loop-i-preserved
loop-i-preserved c = search (rising_on, removal)

pub returns : goal.returns
returns c = let last : c.loop-i.i ≤ c.args.len - 1 = omega arith in search removed_by_loop
