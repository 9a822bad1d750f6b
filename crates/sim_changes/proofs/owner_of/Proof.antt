-- `sim_changes::owner_of` meets its contract: the owner stands in the record.
use Rattle.sim_changes.proofs.Parties.{server_in_lem}
use Rattle.sim_changes.proofs.Storing.{record_held, owner-is}
use Rattle.sim_changes.proofs.owner_of.Statement.{statement}
use Rattle.sim_changes.proofs.owner_of.Tie as tie

server-head-requires : tie.Need-server_head-h-requires
server-head-requires c κs =
    (server_in_lem c.args.w.now c.args.j.0 c.requires, record_held c.args.w.now c.args.j c.requires)

returns : tie.Need-returns
returns c =
    owner-is c.args.w.now c.args.j c.requires _ c.server_head-h.ensures

pub owner_of_spec : {M : Type 1} → statement M
owner_of_spec = tie.close (tie.spec server-head-requires returns)
