-- Each return is one case of the event.
use Rattle.std.proofs.Common.{rules, ◌≡◌, Err}
use Rattle.sim_changes.proofs.Parties.{client_in_lem}
use Rattle.sim_changes.proofs.Answers.{no_client_falls}
use Rattle.sim_acts.proofs.Guards.{client_missing, client-here, fall_twice}
use Rattle.sim_acts.proofs.Silent.{fall_leaves}
use Rattle.sim_acts.proofs.fall.Goals as goal

pub returns-in_err-client_there : goal.returns-in_err-client_there
returns-in_err-client_there c =
    let e : c.from_residual.result ≡ Err c.in_err-client_there.field-0.0 = search rules in
    rw e (client_missing _ c.args.k c.requires c.client_there.ensures _ (no_client_falls _ _ _ _) c.in_err-client_there.was)

pub is_living-requires : goal.is_living-requires
is_living-requires c = client_in_lem _ _ (client-here c.args.w.now c.args.k c.requires c.client_there.ensures c.in_ok-client_there.was)

pub returns-then-not-is_living : goal.returns-then-not-is_living
returns-then-not-is_living c =
    fall_twice _ _ (client-here c.args.w.now c.args.k c.requires c.client_there.ensures c.in_ok-client_there.was) c.is_living.ensures c.if-not-is_living.true

pub fall_client-requires : goal.fall_client-requires
fall_client-requires c = client_in_lem _ _ (client-here c.args.w.now c.args.k c.requires c.client_there.ensures c.in_ok-client_there.was)

pub returns : goal.returns
returns c =
    fall_leaves _ _ (client-here c.args.w.now c.args.k c.requires c.client_there.ensures c.in_ok-client_there.was) c.is_living.ensures c.if-not-is_living.false c.fall_client.ensures
