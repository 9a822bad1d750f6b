-- `slips::show` meets its contract: a script that runs has a valid simulation.
use Rattle.std.proofs.Common.{arith, rules}
use Rattle.script.proofs.LineLaws.{sound}
use Rattle.slips.proofs.RunLaws.{runs}
use Rattle.slips.proofs.show.Goals as goal

pub bounds-w-0 : goal.bounds-w-0
bounds-w-0 g c = omega (arith, (sound _ c.requires).long)

pub bounds-w-1 : goal.bounds-w-1
bounds-w-1 g c = omega (arith, (sound _ c.requires).long)

pub slice_bounds-put_all-end : goal.slice_bounds-put_all-end
slice_bounds-put_all-end g c = omega (arith, (sound _ c.requires).long)

pub put_all-end-requires : goal.put_all-end-requires
put_all-end-requires g c = runs _ c.requires (search rules)
