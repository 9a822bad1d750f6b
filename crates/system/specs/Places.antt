-- The state of a whole system: its clients, its servers and the messages in transit. Document 01 says gallery for system.
use Rattle.std.specs.Prelude.{ℕ, suc, max, Bool, false, not, ◌&&◌, List, [], ◌∷◌, map, length, if◌then◌else◌}
use Rattle.ids.specs.declared.ClientId.{ClientId}
use Rattle.ids.specs.declared.ServerId.{ServerId}
use Rattle.server_votes.specs.Figure1 as votes
use Rattle.client_responses.specs.Figure1 as client
use Rattle.client_responses.specs.Figure1.{is_remainder, is_critical}
use Rattle.system.specs.Numbered.{at, added}
use Rattle.system.specs.Transit.{InTransit}

pub record ClientPlace : Type 0 where
  pub living : Bool
  pub state : client.State
  -- the different servers ever down in the client's epoch, ascending, none outside an epoch; no step reads it
  pub downs : List ℕ

pub record ServerPlace : Type 0 where
  pub up : Bool
  pub state : votes.State

pub record System : Type 0 where
  pub clients : List ClientPlace
  pub servers : List ServerPlace
  pub transit : List InTransit
  -- how many messages were ever sent: the number of the last one
  pub sent : ℕ
  -- the most different servers ever down within one epoch, open or closed; no step reads it
  pub most : ℕ

-- what stands at a number without a place: it does not live, it is not up
abbrev pub no_client : ClientPlace
no_client = record { living = false; state = client.fresh 0; downs = [] }

abbrev pub no_server : ServerPlace
no_server = record { up = false; state = votes.idle }

abbrev pub client_at : System → ClientId → ClientPlace
client_at w k = at no_client w.clients k.0

abbrev pub server_at : System → ServerId → ServerPlace
server_at w j = at no_server w.servers j.0

-- The epoch of a client runs from its try to its exit or fall: it lives, and is trying or in the critical section.
abbrev pub in_epoch : ClientPlace → Bool
in_epoch c = c.living && not (is_remainder c.state.section)

-- a living client in the critical section: document 01's kiosk on the wall
abbrev pub is_inside : ClientPlace → Bool
is_inside c = c.living && is_critical c.state.section

abbrev pub inside : System → ClientId → Bool
inside w k = is_inside (client_at w k)

-- how many there are at once: document 01's living holders
abbrev pub holders : System → ℕ
holders w = client.count (map is_inside w.clients)

-- the numbers of the servers that are down, counted from j
unfoldable pub down_from : ℕ → List ServerPlace → List ℕ
down_from j [] = []
down_from j (q ∷ l) = if q.up then down_from (suc j) l else j ∷ down_from (suc j) l

-- server j goes down: it counts in the client's epoch, if one runs
abbrev pub downed : ServerId → ClientPlace → ClientPlace
downed j c = record { living = c.living; state = c.state; downs = if in_epoch c then added j.0 c.downs else c.downs }

-- the most servers ever down within an epoch that runs
unfoldable pub worst : List ClientPlace → ℕ
worst [] = 0
worst (c ∷ l) = max (length c.downs) (worst l)
