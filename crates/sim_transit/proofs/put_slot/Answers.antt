-- `sim_transit::put_slot` meets its contract: seven stores, one word each.
use native.Mathlib.Omega.{arith}
use lib.ListN.{length-set}
use Rattle.sim_transit.proofs.ChangeLaws.{stored_seven}
use Rattle.sim_transit.proofs.put_slot.Goals as goal

pub bounds-t-at-2 : goal.bounds-t-at-2
bounds-t-at-2 c = simp length-set (omega arith)

pub bounds-t-at-3 : goal.bounds-t-at-3
bounds-t-at-3 c = simp length-set (omega arith)

pub bounds-t-at-4 : goal.bounds-t-at-4
bounds-t-at-4 c = simp length-set (omega arith)

pub bounds-t-at-5 : goal.bounds-t-at-5
bounds-t-at-5 c = simp length-set (omega arith)

pub bounds-t-at-6 : goal.bounds-t-at-6
bounds-t-at-6 c = simp length-set (omega arith)

pub bounds-t-at-7 : goal.bounds-t-at-7
bounds-t-at-7 c = simp length-set (omega arith)

pub returns : goal.returns
returns c = search stored_seven
