-- Each return is one case of the event.
use Rattle.std.proofs.Common.{rules, ◌≡◌, Err}
use Rattle.sim_changes.proofs.Parties.{client_in_lem, server_in_lem}
use Rattle.sim_changes.proofs.ServerEvents.{miss_nobody, owner-client, miss-living, owner_missing}
use Rattle.sim_changes.proofs.Answers.{no_server-misses, misses-down}
use Rattle.sim_acts.proofs.Guards.{server_missing, server-down, server-here, server-runs}
use Rattle.sim_acts.proofs.miss.Goals as goal

pub returns-in_err-server_there : goal.returns-in_err-server_there
returns-in_err-server_there c =
    let e : c.from_residual.result ≡ Err c.in_err-server_there.field-0.0 = search rules in
    rw e (server_missing _ c.args.j c.requires c.server_there.ensures _ (no_server-misses _ _ _ _) c.in_err-server_there.was)

pub is_up-requires : goal.is_up-requires
is_up-requires c = server_in_lem _ _ (server-here c.args.w.now c.args.j c.requires c.server_there.ensures c.in_ok-server_there.was)

pub returns-then-not-is_up : goal.returns-then-not-is_up
returns-then-not-is_up c = server-down _ _ (server-here c.args.w.now c.args.j c.requires c.server_there.ensures c.in_ok-server_there.was) c.is_up.ensures _ (misses-down _ _ _ _) c.if-not-is_up.true

pub owner_of-requires : goal.owner_of-requires
owner_of-requires c = server-here c.args.w.now c.args.j c.requires c.server_there.ensures c.in_ok-server_there.was

pub returns-in_default : goal.returns-in_default
returns-in_default c =
    let here = server-here c.args.w.now c.args.j c.requires c.server_there.ensures c.in_ok-server_there.was in
    miss_nobody _ _ here (server-runs c.args.w.now c.args.j here c.is_up.ensures c.if-not-is_up.false) _ c.owner_of.ensures c.in_default.is

pub is_living-requires : goal.is_living-requires
is_living-requires c =
    let here = server-here c.args.w.now c.args.j c.requires c.server_there.ensures c.in_ok-server_there.was in
    client_in_lem _ _ (owner-client _ _ here (server-runs c.args.w.now c.args.j here c.is_up.ensures c.if-not-is_up.false) _ c.owner_of.ensures _ c.in-Some.is)

pub returns-then-is_living : goal.returns-then-is_living
returns-then-is_living c =
    let here = server-here c.args.w.now c.args.j c.requires c.server_there.ensures c.in_ok-server_there.was in
    miss-living _ _ here (server-runs c.args.w.now c.args.j here c.is_up.ensures c.if-not-is_up.false) _ c.owner_of.ensures _ c.in-Some.is _ c.is_living.ensures c.if-is_living.true

pub server_steps-requires : goal.server_steps-requires
server_steps-requires c =
    let here = server-here c.args.w.now c.args.j c.requires c.server_there.ensures c.in_ok-server_there.was in
    let up = server-runs c.args.w.now c.args.j here c.is_up.ensures c.if-not-is_up.false in
    (owner_missing _ _ here up _ c.owner_of.ensures _ c.in-Some.is _ c.is_living.ensures c.if-is_living.false, up)
