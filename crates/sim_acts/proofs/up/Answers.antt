-- Each return is one case of the event.
use Rattle.std.proofs.Common.{rules, ◌≡◌, Err}
use Rattle.sim_changes.proofs.Parties.{server_in_lem}
use Rattle.sim_changes.proofs.Answers.{no_server-ups}
use Rattle.sim_acts.proofs.Guards.{server_missing, server-here, up_twice}
use Rattle.sim_acts.proofs.Silent.{up_leaves}
use Rattle.sim_acts.proofs.up.Goals as goal

pub returns-in_err-server_there : goal.returns-in_err-server_there
returns-in_err-server_there c =
    let e : c.from_residual.result ≡ Err c.in_err-server_there.field-0.0 = search rules in
    rw e (server_missing _ c.args.j c.requires c.server_there.ensures _ (no_server-ups _ _ _ _) c.in_err-server_there.was)

pub is_up-requires : goal.is_up-requires
is_up-requires c = server_in_lem _ _ (server-here c.args.w.now c.args.j c.requires c.server_there.ensures c.in_ok-server_there.was)

pub returns-then-is_up : goal.returns-then-is_up
returns-then-is_up c =
    up_twice _ _ (server-here c.args.w.now c.args.j c.requires c.server_there.ensures c.in_ok-server_there.was) c.is_up.ensures c.if-is_up.true

pub rise_server-requires : goal.rise_server-requires
rise_server-requires c = server_in_lem _ _ (server-here c.args.w.now c.args.j c.requires c.server_there.ensures c.in_ok-server_there.was)

pub returns : goal.returns
returns c =
    up_leaves _ _ (server-here c.args.w.now c.args.j c.requires c.server_there.ensures c.in_ok-server_there.was) c.is_up.ensures c.if-is_up.false c.rise_server.ensures
