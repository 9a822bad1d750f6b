-- Each arm is given what was read.
use Rattle.std.proofs.Common.{arith}
use Rattle.sim_transit.proofs.PostLaws.{read-rest, fitting_inside, one-posted, none-posted}
use Rattle.sim_transit.proofs.post_one.Goals as goal

-- the message ends within the bytes
pub overflow_add-result : goal.overflow_add-result
overflow_add-result c =
    omega (
      arith,
      fitting_inside c.args.at c.args.number c.args.from c.args.bytes.now c.args.t.now
          _ (read-rest c.args.bytes.now c.args.from _ c.read_fields-p.ensures.value) c.requires.1 _ _ c.in-Ok.is,
    )

pub returns-in-Ok : goal.returns-in-Ok
returns-in-Ok c = search (one-posted, read-rest)

pub returns-in-Err : goal.returns-in-Err
returns-in-Err c = search (none-posted, read-rest)
