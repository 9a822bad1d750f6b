-- `sim_changes::server_acts` meets its contract: a server that is down is refused.
use Rattle.sim_changes.proofs.Parties.{server_in_lem}
use Rattle.sim_changes.proofs.ServerEvents.{act-server, server-down, server-runs}
use borrow.Author.Rules.{rules}
use Rattle.sim_changes.proofs.server_acts.Statement.{statement}
use Rattle.sim_changes.proofs.server_acts.Tie as tie

is-up-requires : tie.Need-is_up-requires
is-up-requires c κs =
    server_in_lem _ _ (act-server c.args.w.now c.args.j c.args.act c.requires)

returns : tie.Need-returns-then-not-is_up
returns c =
    server-down c.args.w.now c.args.j c.args.act c.requires _ c.is_up.ensures c.if-not-is_up.true

server-steps-requires : tie.Need-server_steps-requires
server-steps-requires c κs =
    (c.requires, server-runs c.args.w.now c.args.j c.args.act c.requires _ c.is_up.ensures c.if-not-is_up.false)

pub server_acts_spec : {M : Type 1} → statement M
server_acts_spec =
    tie.close
    (tie.spec
    is-up-requires
    (λ c. search rules)
    returns
    server-steps-requires
    (λ c. search rules)
    (λ c. search rules))
