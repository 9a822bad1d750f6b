-- `sim_layout::entry_of` meets its contract: a receiver of the setting has its place in the index, and another has no entry.
use Rattle.sim_layout.proofs.EntryLaws.{client_lacking, client-there, client-entry, server_lacking, server-there, server-entry}
use Rattle.sim_layout.proofs.entry_of.Goals as goal

pub returns-then-not-has_client : goal.returns-then-not-has_client
returns-then-not-has_client c = client_lacking _ c.requires _ c.args.i _ c.in-Client.is _ c.has_client.ensures c.if-not-has_client.true

pub overflow_sub-k : goal.overflow_sub-k
overflow_sub-k c = (client-there _ c.requires _ c.args.i _ c.in-Client.is _ c.has_client.ensures c.if-not-has_client.false).0

pub entry_at-requires : goal.entry_at-requires
entry_at-requires c = let s = c.before in
    (c.requires, (client-there _ c.requires _ c.args.i _ c.in-Client.is _ c.has_client.ensures c.if-not-has_client.false).1)

pub returns-then-not-has_server : goal.returns-then-not-has_server
returns-then-not-has_server c = server_lacking _ c.requires _ c.args.i _ c.in-Server.is _ c.has_server.ensures c.if-not-has_server.true

pub overflow_sub-j : goal.overflow_sub-j
overflow_sub-j c = (server-there _ c.requires _ c.args.i _ c.in-Server.is _ c.has_server.ensures c.if-not-has_server.false).0

pub entry_at-requires-in-Server : goal.entry_at-requires-in-Server
entry_at-requires-in-Server c = let s = c.before in
    (c.requires, (server-there _ c.requires _ c.args.i _ c.in-Server.is _ c.has_server.ensures c.if-not-has_server.false).1)

pub returns-else-not-has_client : goal.returns-else-not-has_client
returns-else-not-has_client c = client-entry _ c.requires _ c.args.i _ c.in-Client.is _ c.has_client.ensures c.if-not-has_client.false _ c.entry_at.ensures

pub returns-else-not-has_server : goal.returns-else-not-has_server
returns-else-not-has_server c = server-entry _ c.requires _ c.args.i _ c.in-Server.is _ c.has_server.ensures c.if-not-has_server.false _ c.entry_at-in-Server.ensures
