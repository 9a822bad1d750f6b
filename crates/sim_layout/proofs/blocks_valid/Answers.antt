-- `sim_layout::blocks_valid` meets its contract: each return is one case of the definition.
use Rattle.sim_layout.proofs.TestLaws.{clients_bad, behind-clients, servers_bad, behind-servers}
use Rattle.sim_layout.proofs.blocks_valid.Goals as goal

pub returns-then-not-clients_valid : goal.returns-then-not-clients_valid
returns-then-not-clients_valid c = search clients_bad

pub returns-then-not-is_blank : goal.returns-then-not-is_blank
returns-then-not-is_blank c = search behind-clients

pub returns-then-not-servers_valid : goal.returns-then-not-servers_valid
returns-then-not-servers_valid c = search servers_bad

pub returns : goal.returns
returns c = search behind-servers
