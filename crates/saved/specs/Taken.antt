-- What is promised of a saved record that is taken over.
use Rattle.std.specs.Prelude.{◌≡◌, true, List, ℕ, Some}
use Rattle.server.specs.Record as server
use Rattle.server.specs.declared.Server.{Server}
use Rattle.client.specs.Record as client
use Rattle.client.specs.declared.Client.{Client}
use Rattle.words.specs.Records.{server_from, server_in, client_from, client_in}
use Rattle.saved.specs.Forms.{saved_server, server_now, ordered, saved_client, client_now}

-- the state of the saved record, stored as a record of today: its places behind are empty
abbrev pub server_today : Server → Server
server_today s = server.store s.head.n s.head.id (server.view s)

abbrev pub client_today : Client → Client
client_today c = client.store c.head.n c.head.m c.head.id (client.view c)

-- the client that saved words are; one from before L4 has seen nothing
abbrev pub saved_as : List ℕ → Client
saved_as ws = client_from (ordered ws)

-- Taken over, the words ws are that record; it is valid, and shows the state that the saved one shows, owner and queue; taken over once more, it is as it was.
pub record ServerTaken (ws : List ℕ) : Type 0 where
  pub read : server_in (server_now ws) ≡ Some (server_today (server_from ws))
  pub valid : server.valid (server_today (server_from ws)) ≡ true
  pub shows : server.view (server_today (server_from ws)) ≡ server.view (server_from ws)
  pub saved : saved_server (server_now ws) ≡ true
  pub again : server_now (server_now ws) ≡ server_now ws

-- The same of a client: section, timestamp, what it has seen and responses.
pub record ClientTaken (ws : List ℕ) : Type 0 where
  pub read : client_in (client_now ws) ≡ Some (client_today (saved_as ws))
  pub valid : client.valid (client_today (saved_as ws)) ≡ true
  pub shows : client.view (client_today (saved_as ws)) ≡ client.view (saved_as ws)
  pub saved : saved_client (client_now ws) ≡ true
  pub again : client_now (client_now ws) ≡ client_now ws
