-- `sim_layout::transit_valid` meets its contract: the messages in transit are lent.
use Rattle.sim_layout.proofs.TestLaws.{transit-part}
use native.Mathlib.Omega.{arith}
use Rattle.sim_layout.proofs.transit_valid.Goals as goal

pub overflow_cast-len : goal.overflow_cast-len
overflow_cast-len c = record { fits = omega (arith, c.shared_slice_known-3-1.given 4) }

pub returns : goal.returns
returns c = search transit-part
