-- The blocks of a simulation by their number, from 1.
use Rattle.std.specs.Prelude.{◌≡◌, ℕ, ◌+◌, ◌*◌, ◌-◌, ◌≤◌, List, length, take, drop}
use Rattle.std.proofs.lemmas.List.Edits.{sets}
use Rattle.ids.specs.declared.ClientId.{ClientId}
use Rattle.ids.specs.declared.ServerId.{ServerId}
use Rattle.sim_blocks.specs.Blocks.{client_block, server_block}
use Rattle.sim_layout.specs.Layout.{clients_from, servers_from, client_words, server_words, simulation_size}
use Rattle.system.specs.Limits.{system_clients, system_servers}

abbrev pub client_block_of : List ℕ → ClientId → List ℕ
client_block_of w k = take client_block (drop ((k.0 - 1) * client_block) (client_words w))

abbrev pub server_block_of : List ℕ → ServerId → List ℕ
server_block_of w j = take server_block (drop ((j.0 - 1) * server_block) (server_words w))

-- the words with b in the place of a block
abbrev pub with_client_block : List ℕ → ClientId → List ℕ → List ℕ
with_client_block w k b = sets w (clients_from + client_block * (k.0 - 1)) b

abbrev pub with_server_block : List ℕ → ServerId → List ℕ → List ℕ
with_server_block w j b = sets w (servers_from + server_block * (j.0 - 1)) b

-- there is a client block, or a server block, with this number
pub record ClientIn (w : List ℕ) (k : ClientId) : Type 0 where
  pub long : length w ≡ simulation_size
  pub first : 1 ≤ k.0
  pub last : k.0 ≤ system_clients

pub record ServerIn (w : List ℕ) (j : ServerId) : Type 0 where
  pub long : length w ≡ simulation_size
  pub first : 1 ≤ j.0
  pub last : j.0 ≤ system_servers
