-- Each kind of reply has its line, and no line is longer than the room.
use Rattle.std.proofs.Common.{arith}
use Rattle.script.proofs.StepLaws.{no_fits, ok_fits, replied_no, replied_ok}
use Rattle.script.proofs.put_reply.Goals as goal

pub put_no-requires : goal.put_no-requires
put_no-requires c = no_fits c.args.out.now _ c.requires _ _ (omega arith)

pub put_ok-requires : goal.put_ok-requires
put_ok-requires c = ok_fits c.args.out.now _ c.requires _ _ _ (omega arith) (omega arith) (omega arith)

pub returns-in-Err : goal.returns-in-Err
returns-in-Err c = replied_no _ _ _ _ _ _ (omega arith) _ c.in-Err.is c.put_no.ensures

pub returns-in-Ok : goal.returns-in-Ok
returns-in-Ok c = replied_ok _ _ _ _ _ _ (omega arith) _ _ (omega arith) (omega arith) c.in-Ok.is c.put_ok.ensures
