-- The party is there, or the event is refused.
use Rattle.std.proofs.Common.{rules, ◌≡◌, Err}
use Rattle.sim_changes.proofs.Answers.{no_client-tries}
use Rattle.sim_acts.proofs.Guards.{client_missing, client-here}
use Rattle.sim_acts.proofs.try_enter.Goals as goal

pub returns-in_err-client_there : goal.returns-in_err-client_there
returns-in_err-client_there c =
    let e : c.from_residual.result ≡ Err c.in_err-client_there.field-0.0 = search rules in
    rw e (client_missing _ c.args.k c.requires c.client_there.ensures _ (no_client-tries _ _ _ _) c.in_err-client_there.was)

pub client_acts-requires : goal.client_acts-requires
client_acts-requires c = client-here _ _ c.requires c.client_there.ensures c.in_ok-client_there.was
