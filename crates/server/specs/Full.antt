-- When a REQUEST finds no place: refusal 14, document 01's line full, older pair gone.
use Rattle.std.specs.Prelude.{◌≡◌, ℕ, ◌*◌, false, ltb, length, if◌then◌else◌, None}
use Rattle.ids.specs.Choice.{maybe}
use Rattle.ids.specs.Requests.{is_client}
use Rattle.ids.specs.declared.ClientId.{ClientId}
use Rattle.ids.specs.declared.ServerId.{ServerId}
use Rattle.ids.specs.declared.Timestamp.{Timestamp}
use Rattle.ids.specs.declared.Request.{Request}
use Rattle.rows.specs.Queue.{timestamp_in}
use Rattle.server_votes.specs.Figure1.{State, candidates, delete}
use Rattle.server.specs.declared.Server.{Server}
use Rattle.server.specs.Record.{view}

-- the state of server j without the pair of r's client, which stands there with timestamp t, if that is older than r
abbrev pub without_pair : ServerId → Request → State → Timestamp → State
without_pair j r q t = if ltb t.0 r.timestamp.0 then (delete j (record { client = r.client; timestamp = t }) q).state else q

-- the state once the sender's older pair, if one stands there, is removed
abbrev pub without_older : ServerId → Request → State → State
without_older j r q = maybe (timestamp_in r.client (candidates q)) q (without_pair j r q)

-- client k would have to join a queue whose places, two words each, are all taken
pub record NoPlace (words : ℕ) (k : ClientId) (q : State) : Type 0 where
  pub not_owner : is_client k q.owner ≡ false
  pub not_waiting : timestamp_in k q.queue ≡ None
  pub all_taken : 2 * length q.queue ≡ words

-- server s has no place for r
abbrev pub Full : Server → Request → Type 0
Full s r = NoPlace (length s.row) r.client (without_older s.head.id r (view s))
