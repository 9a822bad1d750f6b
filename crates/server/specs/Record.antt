-- The server's record, a head and a row of words for its queue: which records are valid, and how a record and the state of Figure 1 are one another.
use Rattle.std.specs.Prelude.{ℕ, ◌*◌, Bool, true, false, ◌&&◌, List, [], ◌∷◌, eqb, length}
use Rattle.rows.specs.Rows.{row_of}
use Rattle.ids.specs.Lists.{every}
use Rattle.ids.specs.Choice.{maybe}
use Rattle.ids.specs.Limits.{within, max_servers, valid_request, valid_owner}
use Rattle.ids.specs.Order.{before}
use Rattle.ids.specs.Requests.{by_owner}
use Rattle.ids.specs.declared.ServerId.{ServerId}
use Rattle.ids.specs.declared.Request.{Request}
use Rattle.rows.specs.Good.{good_row}
use Rattle.rows.specs.Queue.{timestamp_in}
use Rattle.server_votes.specs.Queues as votes
use Rattle.server_votes.specs.Figure1.{State, candidates}
use Rattle.server.specs.declared.Head.{Head}
use Rattle.server.specs.declared.Server.{Server}

-- the places of a waiting line, 32 by document 02, L3, and the words of a record's row
abbrev pub queue_places : ℕ
queue_places = 32

abbrev pub row_words : ℕ
row_words = 2 * queue_places

-- the record in a head and a row of any length
abbrev pub server_of : Head → List ℕ → Server
server_of h row = record { head = h; row = row }

-- the state that a record holds
abbrev pub view : Server → State
view s = votes.view s.head.votes s.row

-- the record of server j of n that holds a state, with so many places: those behind its queue are empty
abbrev pub store_in : ℕ → ℕ → ServerId → State → Server
store_in places n j q = server_of (record { n = n; id = j; votes = record { owner = q.owner; len = length q.queue } }) (row_of (2 * places) q.queue)

-- by value
abbrev pub store : ℕ → ServerId → State → Server
store = store_in queue_places

-- server id of n, where so many servers are the most
abbrev pub valid_sizes_up_to : ℕ → ℕ → ServerId → Bool
valid_sizes_up_to limit n j = within n limit && within j.0 n

abbrev pub valid_sizes : ℕ → ServerId → Bool
valid_sizes = valid_sizes_up_to max_servers

-- strictly in order: each before the next
unfoldable pub ordered : List Request → Bool
ordered [] = true
ordered (x ∷ []) = true
ordered (x ∷ (y ∷ l)) = before x y && ordered (y ∷ l)

-- no client twice
unfoldable pub once : List Request → Bool
once [] = true
once (x ∷ l) = maybe (timestamp_in x.client l) (once l) (λ t. false)

-- a queue only behind an owner
abbrev pub behind_owner : State → Bool
behind_owner q = by_owner q.owner (eqb (length q.queue) 0) (λ o. true)

-- document 01's paragraph 'A record is broken if ..', turned round, for the state
unfoldable pub valid_state : State → Bool
valid_state q =
    valid_owner q.owner && every valid_request q.queue && behind_owner q && ordered q.queue && once (candidates q)

unfoldable pub valid_up_to : ℕ → Server → Bool
valid_up_to limit s = valid_sizes_up_to limit s.head.n s.head.id && good_row s.row s.head.votes.len && valid_state (view s)

abbrev pub valid : Server → Bool
valid = valid_up_to max_servers
