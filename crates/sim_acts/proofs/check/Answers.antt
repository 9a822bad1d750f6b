-- The party is there, or the event is refused.
use Rattle.std.proofs.Common.{rules, ◌≡◌, Err}
use Rattle.sim_changes.proofs.Answers.{no_server_checks}
use Rattle.sim_acts.proofs.Guards.{server_missing, server-here}
use Rattle.sim_acts.proofs.check.Goals as goal

pub returns-in_err-server_there : goal.returns-in_err-server_there
returns-in_err-server_there c =
    let e : c.from_residual.result ≡ Err c.in_err-server_there.field-0.0 = search rules in
    rw e (server_missing _ c.args.j c.requires c.server_there.ensures _ (no_server_checks _ _ _ _) c.in_err-server_there.was)

pub server_acts-requires : goal.server_acts-requires
server_acts-requires c = server-here _ _ c.requires c.server_there.ensures c.in_ok-server_there.was
