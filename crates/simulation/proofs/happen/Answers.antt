-- What the event answers, with the holders of the words it leaves.
use Rattle.std.proofs.Common.{◌≡◌, Err, rules}
use Rattle.simulation.proofs.Replies.{happened-refused, happened}
use Rattle.simulation.proofs.happen.Goals as goal

pub returns-in_err-sent : goal.returns-in_err-sent
returns-in_err-sent c =
    let e : c.from_residual.result ≡ Err c.in_err-sent.field-0.0 = search rules in
    rw e (happened-refused _ _ _ _ c.work.ensures _ c.in_err-sent.was)

pub returns : goal.returns
returns c = happened _ _ _ _ c.work.ensures _ _ c.in_ok-sent.was c.holders-holders.ensures
