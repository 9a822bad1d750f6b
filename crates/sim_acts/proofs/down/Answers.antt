-- Each refusal is one case of the event, and the three stores make its step.
use Rattle.std.proofs.Common.{rules, ◌≡◌, Err}
use Rattle.sim_changes.proofs.Parties.{server_in_lem}
use Rattle.sim_changes.proofs.Answers.{no_server-downs, downs_twice}
use Rattle.sim_acts.proofs.Guards.{server_missing, server-down, server-here}
use Rattle.sim_acts.proofs.Silent.{sinkable, sunk-server, still-server, down_leaves}
use Rattle.sim_acts.proofs.down.Goals as goal

pub returns-in_err-server_there : goal.returns-in_err-server_there
returns-in_err-server_there c =
    let e : c.from_residual.result ≡ Err c.in_err-server_there.field-0.0 = search rules in
    rw e (server_missing _ c.args.j c.requires c.server_there.ensures _ (no_server-downs _ _ _ _) c.in_err-server_there.was)

pub is_up-requires : goal.is_up-requires
is_up-requires c = server_in_lem _ _ (server-here c.args.w.now c.args.j c.requires c.server_there.ensures c.in_ok-server_there.was)

pub returns-then-not-is_up : goal.returns-then-not-is_up
returns-then-not-is_up c =
    server-down _ _ (server-here c.args.w.now c.args.j c.requires c.server_there.ensures c.in_ok-server_there.was) c.is_up.ensures _ (downs_twice _ _ _ _) c.if-not-is_up.true

pub sink_server-requires : goal.sink_server-requires
sink_server-requires c = sinkable _ _ (server-here c.args.w.now c.args.j c.requires c.server_there.ensures c.in_ok-server_there.was)

pub restart_messages-requires : goal.restart_messages-requires
restart_messages-requires c =
    sunk-server _ _ (server-here c.args.w.now c.args.j c.requires c.server_there.ensures c.in_ok-server_there.was) c.sink_server.ensures

pub note_down-requires : goal.note_down-requires
note_down-requires c =
    still-server _ _ (server-here c.args.w.now c.args.j c.requires c.server_there.ensures c.in_ok-server_there.was) c.sink_server.ensures c.restart_messages.ensures

pub returns : goal.returns
returns c =
    down_leaves _ _ (server-here c.args.w.now c.args.j c.requires c.server_there.ensures c.in_ok-server_there.was) c.sink_server.ensures c.restart_messages.ensures c.note_down.ensures c.is_up.ensures c.if-not-is_up.false
