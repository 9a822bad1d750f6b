-- Definitions that only the contracts of private functions cite: no promise rests on them. Of a party's act: what its call does, and what the
-- event leaves but for the messages that it sends.
use Rattle.std.specs.Prelude.{◌≡◌, true, Bool, ◌&&◌, ◌||◌, ℕ, ◌≤◌, ◌+◌, ◌-◌, zero, suc, List, [], ◌++◌, eqb, leb, length, set, replicate}
use Rattle.ids.specs.Limits.{valid_owner}
use Rattle.ids.specs.declared.ClientId.{ClientId}
use Rattle.ids.specs.declared.ServerId.{ServerId}
use Rattle.wire.specs.Step.{Step, Outcome, stepped}
use Rattle.server_votes.specs.Figure1 as votes
use Rattle.server.specs.Record as server
use Rattle.server.specs.Calls.{empty_server_in, check_outcome, suspect_outcome, taken, server_after}
use Rattle.server.specs.declared.Server.{Server}
use Rattle.server.specs.declared.Head as server-head
use Rattle.client_responses.specs.Figure1 as client
use Rattle.client_responses.specs.Figure1.{enough}
use Rattle.client.specs.Record as client-record
use Rattle.client.specs.Calls.{begin_outcome, exit_outcome, client_after}
use Rattle.client.specs.declared.Client.{Client}
use Rattle.words.specs.Records.{client_from, server_from, max_word, client_words, server_words}
use Rattle.system.specs.Numbered.{put}
use Rattle.system.specs.Transit.{InTransit, replaced, gone, keeping, numbered}
use Rattle.system.specs.Places.{System, client_at, server_at, down_from, ClientPlace, ServerPlace}
use Rattle.sim_transit.specs.Slots.{names, messages_in}
use Rattle.sim_indexed.specs.Indexed.{slot_in}
use Rattle.sim_blocks.specs.Blocks.{response_words, queue_words, client_record, server_record}
use Rattle.sim_layout.specs.Layout.{setting_of, transit_words, view, length_of, sent_of, valid, blank}
use Rattle.sim_layout.specs.Parts.{client_block_of, server_block_of, with_client_block, with_server_block}
use Rattle.sim_changes.specs.Changes.{with_clients, with_transit}
use Rattle.sim_changes.specs.Acts.{ClientMay, ServerMay}
use Rattle.sim_changes.specs.declared.ClientAct.{ClientAct}
use Rattle.sim_changes.specs.declared.ClientAct.TheVariants as client-act
use Rattle.sim_changes.specs.declared.ServerAct.{ServerAct}
use Rattle.sim_changes.specs.declared.ServerAct.TheVariants as server-act
use Rattle.ids.specs.Lists.{every}
use Rattle.wire.specs.Format as format
use Rattle.wire.specs.declared.Message.{Message}
use Rattle.system.specs.Limits.{system_messages, last_number}
use Rattle.std.proofs.lemmas.List.Edits.{sets}

-- one part changed, and messages sent ---------------------------------------------------------------------------------------

-- the bytes into which an event's step writes what it sends: more than any step needs
abbrev pub out_bytes : ℕ
out_bytes = 512

-- the system with one part changed
abbrev pub with_client : System → ClientId → ClientPlace → System
with_client u k p = record { clients = put u.clients k.0 p; servers = u.servers; transit = u.transit; sent = u.sent; most = u.most }

abbrev pub with_server : System → ServerId → ServerPlace → System
with_server u j q = record { clients = u.clients; servers = put u.servers j.0 q; transit = u.transit; sent = u.sent; most = u.most }

-- messages are sent
abbrev pub sending : System → List Message → System
sending u l =
    record { clients = u.clients; servers = u.servers; transit = u.transit ++ numbered u.sent l; sent = u.sent + length l; most = u.most }

-- so many messages may be sent once `gone` messages are gone: refusal 19, turned round
unfoldable pub has_room : List ℕ → ℕ → ℕ → Bool
has_room w gone count = eqb count 0 || (leb (length_of w - gone + count) system_messages && leb (sent_of w + count) last_number)

-- the first messages of the bytes can be sent
pub record Sendable (w : List ℕ) (count : ℕ) (bytes : List ℕ) : Type 0 where
  pub valid : valid w ≡ true
  pub whole : length (messages_in count bytes) ≡ count
  pub room : has_room w 0 count ≡ true
  pub named : every (names (setting_of w).n (setting_of w).clients) (messages_in count bytes) ≡ true

-- these messages can be sent
pub record CanSend (w : List ℕ) (l : List Message) : Type 0 where
  pub valid : valid w ≡ true
  pub room : has_room w 0 (length l) ≡ true
  pub named : every (names (setting_of w).n (setting_of w).clients) l ≡ true
  pub range : every format.valid l ≡ true

-- all words are 0, as many as before
pub record Cleared (w w' : List ℕ) : Type 0 where
  pub same : length w' ≡ length w
  pub zeros : blank w' ≡ true

-- the record of a new client, and its block written; the same of a new server
abbrev pub fresh_record : ℕ → ℕ → ClientId → Client
fresh_record n m k = client-record.client_of (client-record.head_in n m k (client.fresh n)) (replicate response_words 0)

unfoldable pub new_client : ℕ → ℕ → ClientId → List ℕ → List ℕ
new_client n m k w = with_client_block w k (sets (set (client_block_of w k) 0 1) 1 (client_words (fresh_record n m k)))

unfoldable pub new_server : ℕ → ServerId → List ℕ → List ℕ
new_server n j w = with_server_block w j (sets (set (server_block_of w j) 0 1) 1 (server_words (empty_server_in queue_words n j)))

-- each of the first so many parties put, one after another
unfoldable pub in_turn : (ℕ → List ℕ → List ℕ) → ℕ → List ℕ → List ℕ
in_turn f zero w = w
in_turn f (suc i) w = f (suc i) (in_turn f i w)

-- a client's act --------------------------------------------------------------------------------------------------------------

-- what the call asks of the record, and its outcome before the room is known
abbrev pub ClientAsks : ClientAct → Client → Type 0
ClientAsks client-act.Try c = client-record.valid c ≡ true
ClientAsks client-act.Exit c = client-record.valid c ≡ true
ClientAsks (client-act.Response i j o) c = (client-record.valid c ≡ true) × (1 ≤ j.0) × (j.0 ≤ c.head.n) × (valid_owner o ≡ true)
ClientAsks (client-act.Check i j t) c = client-record.valid c ≡ true

abbrev pub client_outcome : ClientAct → Client → Outcome client.State
client_outcome client-act.Try c = begin_outcome c
client_outcome client-act.Exit c = exit_outcome c
client_outcome (client-act.Response i j o) c =
    stepped (client.responds (enough c.head.m) c.head.n c.head.id j o (client-record.view c))
client_outcome (client-act.Check i j t) c = stepped (client.checked c.head.id j t (client-record.view c))

-- the step that it makes
abbrev pub client_step : List ℕ → ClientId → ClientAct → Step client.State
client_step w k client-act.Try = client.tries (setting_of w).n k (client_at (view w) k).state
client_step w k client-act.Exit = client.exits (setting_of w).n k (client_at (view w) k).state
client_step w k (client-act.Response i j o) = client.responds (enough (setting_of w).m) (setting_of w).n k j o (client_at (view w) k).state
client_step w k (client-act.Check i j t) = client.checked k j t (client_at (view w) k).state

-- the messages in transit that stay, and how many do not
abbrev pub client_rest : List ℕ → ClientAct → List InTransit
client_rest w client-act.Try = (view w).transit
client_rest w client-act.Exit = (view w).transit
client_rest w (client-act.Response i j o) = replaced (slot_in (transit_words w) i).number gone (view w).transit
client_rest w (client-act.Check i j t) = replaced (slot_in (transit_words w) i).number gone (view w).transit

abbrev pub client_gone : ClientAct → ℕ
client_gone client-act.Try = 0
client_gone client-act.Exit = 0
client_gone (client-act.Response i j o) = 1
client_gone (client-act.Check i j t) = 1

-- the servers ever down in the client's epoch: it begins, or ends, or goes on
abbrev pub client_downs : List ℕ → ClientId → ClientAct → List ℕ
client_downs w k client-act.Try = down_from 1 (view w).servers
client_downs w k client-act.Exit = []
client_downs w k (client-act.Response i j o) = (client_at (view w) k).downs
client_downs w k (client-act.Check i j t) = (client_at (view w) k).downs

-- c is client k's record after its call, which was accepted
pub record ClientStores (w : List ℕ) (k : ClientId) (a : ClientAct) (c : Client) : Type 0 where
  pub may : ClientMay w k a
  pub lives : (client_at (view w) k).living ≡ true
  pub accepted : client_outcome a (client_from (client_record (client_block_of w k))) ≡ stepped (client_step w k a)
  pub left : c ≡ client_after (client_from (client_record (client_block_of w k))) (stepped (client_step w k a))

-- the system with it
abbrev pub client_stored : List ℕ → ClientId → ClientAct → System
client_stored w k a =
    with_clients (with_transit (view w) (client_rest w a))
    (put (view w).clients k.0 (record { living = true; state = (client_step w k a).state; downs = client_downs w k a }))

-- a server's act --------------------------------------------------------------------------------------------------------------

abbrev pub server_outcome : ServerAct → ServerId → Server → Outcome votes.State
server_outcome server-act.Check j s = check_outcome s
server_outcome server-act.Suspect j s = suspect_outcome s
server_outcome (server-act.Take i tag k t) j s = taken s tag k j t

abbrev pub server_step : List ℕ → ServerId → ServerAct → Step votes.State
server_step w j server-act.Check = votes.check j (server_at (view w) j).state
server_step w j server-act.Suspect = votes.suspect j (server_at (view w) j).state
server_step w j (server-act.Take i tag k t) = votes.receive j tag (record { client = k; timestamp = t }) (server_at (view w) j).state

abbrev pub server_rest : List ℕ → ServerAct → List InTransit
server_rest w server-act.Check = (view w).transit
server_rest w server-act.Suspect = (view w).transit
server_rest w (server-act.Take i tag k t) = replaced (slot_in (transit_words w) i).number keeping (view w).transit

-- h and row are server j's record after its call
pub record ServerStores (w : List ℕ) (j : ServerId) (a : ServerAct) (h : server-head.Head) (row : List ℕ) : Type 0 where
  pub may : ServerMay w j a
  pub up : (server_at (view w) j).up ≡ true
  pub left : server.server_of h row ≡ server_after (server_from (server_record (server_block_of w j))) (stepped (server_step w j a))
  pub short : h.votes.len ≤ max_word

abbrev pub server_stored : List ℕ → ServerId → ServerAct → System
server_stored w j a =
    with_server (with_transit (view w) (server_rest w a)) j (record { up = true; state = (server_step w j a).state })
