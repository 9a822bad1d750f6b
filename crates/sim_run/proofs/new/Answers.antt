-- A simulation that is refused, or one that opens with nothing counted.
use Rattle.std.proofs.Common.{◌≡◌, Err, rules}
use Rattle.sim_run.proofs.NewLaws.{new_refused, new_run, new_said}
use Rattle.sim_run.proofs.new.Goals as goal

pub returns-in_err-new : goal.returns-in_err-new
returns-in_err-new c =
    let e : c.from_residual.result ≡ Err c.in_err-new.field-0.0 = search rules in
    let said = new_said _ _ _ _ (new_refused _ _ _ _ c.new.ensures.new_leaves _ c.in_err-new.was) in
    record { new_leaves = rw e said.0; numbers = rw e said.1 }

pub returns : goal.returns
returns c =
    let said = new_said _ _ _ _ (new_run _ _ _ _ c.new.ensures.new_leaves _ c.in_ok-new.was) in
    record { new_leaves = said.0; numbers = said.1 }
