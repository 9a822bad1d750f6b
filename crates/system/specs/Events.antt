-- What an event does to a whole system: the row 'gallery event' of document 01's table, each refusal in its order.
use Rattle.ids.specs.declared.Request.{Request}
use Rattle.std.specs.Prelude.{ℕ, ◌+◌, Bool, true, false, not, ◌&&◌, List, [], ◌∷◌, ◌++◌, map, leb, length, if◌then◌else◌, Option}
use Rattle.ids.specs.Choice.{maybe}
use Rattle.ids.specs.Requests.{by_owner}
use Rattle.ids.specs.declared.ClientId.{ClientId}
use Rattle.ids.specs.declared.ServerId.{ServerId}
use Rattle.ids.specs.declared.Timestamp.{Timestamp}
use Rattle.ids.specs.declared.Refusal.{Refusal}
use Rattle.ids.specs.declared.Refusal.TheVariants.{NoSuchParty, PartyDown, NoOwner, OwnerLives, SystemFull}
use Rattle.wire.specs.Step.{Step, stay, Outcome, refused, stepped}
use Rattle.wire.specs.declared.Message.{Message}
use Rattle.wire.specs.declared.Message.TheVariants.{Request as REQUEST, Yield as YIELD, Release as RELEASE, Inquiry as INQUIRY, Response as RESPONSE, Check as CHECK}
use Rattle.server_votes.specs.Figure1 as votes
use Rattle.server_votes.specs.declared.Tag.{Tag}
use Rattle.server_votes.specs.declared.Tag.TheVariants as tag
use Rattle.client_responses.specs.Figure1 as client
use Rattle.client_responses.specs.Figure1.{Quorum, try_checked, exit_checked}
use Rattle.system.specs.declared.Event.{Event}
use Rattle.system.specs.declared.Event.TheVariants.{Try, Exit, Fall, Down, Up, Take, Drop, Miss, Check}
use Rattle.system.specs.Numbered.{put, has}
use Rattle.system.specs.Transit.{InTransit, numbered, pending, present, replaced, gone, keeping, again}
use Rattle.system.specs.Places.{System, client_at, server_at, down_from, downed}

-- what accepted events leave ------------------------------------------------------------------------------------------------

-- client k, which lives, has made a step: l of the messages in transit stay, what it sent joins them, and d are the servers
-- ever down in its epoch
abbrev pub client_moves : System → ClientId → List InTransit → List ℕ → Step client.State → Step System
client_moves w k l d s =
    record {
      state = record {
        clients = put w.clients k.0 (record { living = true; state = s.state; downs = d });
        servers = w.servers;
        transit = l ++ numbered w.sent s.sent;
        sent = w.sent + length s.sent;
        most = w.most;
      };
      sent = s.sent;
    }

-- server j, which is up, has made a step
abbrev pub server_moves : System → ServerId → List InTransit → Step votes.State → Step System
server_moves w j l s =
    record {
      state = record {
        clients = w.clients;
        servers = put w.servers j.0 (record { up = true; state = s.state });
        transit = l ++ numbered w.sent s.sent;
        sent = w.sent + length s.sent;
        most = w.most;
      };
      sent = s.sent;
    }

-- an epoch begins: the servers down now count
abbrev pub tried : ℕ → System → ClientId → Step System
tried n w k = client_moves w k w.transit (down_from 1 w.servers) (client.tries n k (client_at w k).state)

-- an epoch ends
abbrev pub exited : ℕ → System → ClientId → Step System
exited n w k = client_moves w k w.transit [] (client.exits n k (client_at w k).state)

abbrev pub fallen : System → ClientId → Step System
fallen w k =
    stay (record {
      clients = put w.clients k.0 (record { living = false; state = (client_at w k).state; downs = [] });
      servers = w.servers;
      transit = w.transit;
      sent = w.sent;
      most = w.most;
    })

-- the server forgets everything, and what was delivered to it is pending again
abbrev pub went_down : System → ServerId → Step System
went_down w j =
    stay (record {
      clients = map (downed j) w.clients;
      servers = put w.servers j.0 (record { up = false; state = votes.idle });
      transit = map (again j) w.transit;
      sent = w.sent;
      most = w.most;
    })

abbrev pub came_up : System → ServerId → Step System
came_up w j =
    stay (record {
      clients = w.clients;
      servers = put w.servers j.0 (record { up = true; state = (server_at w j).state });
      transit = w.transit;
      sent = w.sent;
      most = w.most;
    })

-- server j takes the message with number i: it is delivered, and stays
abbrev pub server_took : System → ℕ → Tag → ClientId → ServerId → Timestamp → Step System
server_took w i tag k j t =
    server_moves w j (replaced i keeping w.transit) (votes.receive j tag (record { client = k; timestamp = t }) (server_at w j).state)

-- client k takes the message with number i: it is gone
abbrev pub response_took : ℕ → Quorum → System → ℕ → ClientId → ServerId → Option Request → Step System
response_took n wins w i k j o =
    client_moves w k (replaced i gone w.transit) (client_at w k).downs (client.responds wins n k j o (client_at w k).state)

abbrev pub check_took : System → ℕ → ClientId → ServerId → Timestamp → Step System
check_took w i k j t = client_moves w k (replaced i gone w.transit) (client_at w k).downs (client.checked k j t (client_at w k).state)

abbrev pub dropped : System → ℕ → Step System
dropped w i =
    stay (record { clients = w.clients; servers = w.servers; transit = replaced i gone w.transit; sent = w.sent; most = w.most })

abbrev pub suspected : System → ServerId → Step System
suspected w j = server_moves w j w.transit (votes.suspect j (server_at w j).state)

abbrev pub asked : System → ServerId → Step System
asked w j = server_moves w j w.transit (votes.check j (server_at w j).state)

-- events ----------------------------------------------------------------------------------------------------------------------

abbrev pub EventOutcome : Type 0
EventOutcome = Outcome System

-- go on if the condition holds, else refuse
abbrev pub need : Bool → Refusal → EventOutcome → EventOutcome
need b x o = if b then o else refused x

-- go on with what was found, else refuse
abbrev pub found : {A : Type 0} → Option A → Refusal → (A → EventOutcome) → EventOutcome
found o x f = maybe o (refused x) f

infixr 5 ◌>>◌
abbrev pub ◌>>◌ : (EventOutcome → EventOutcome) → EventOutcome → EventOutcome
f >> o = f o

infixr 5 ◌>>=◌
abbrev pub ◌>>=◌ : {A : Type 0} → ((A → EventOutcome) → EventOutcome) → (A → EventOutcome) → EventOutcome
f >>= g = f g

-- server j takes a message
abbrev pub to_server : System → ℕ → Tag → ClientId → ServerId → Timestamp → EventOutcome
to_server w i tag k j t = do
  need (server_at w j).up PartyDown
  stepped (server_took w i tag k j t)

module _ (n : ℕ) (wins : Quorum) where
  -- the receiver takes the message with number i
  unfoldable pub deliver : System → ℕ → Message → EventOutcome
  deliver w i (REQUEST k j t) = to_server w i tag.Request k j t
  deliver w i (YIELD k j t) = to_server w i tag.Yield k j t
  deliver w i (RELEASE k j t) = to_server w i tag.Release k j t
  deliver w i (INQUIRY k j t) = to_server w i tag.Inquiry k j t
  deliver w i (RESPONSE k j o) = do
    need (client_at w k).living PartyDown
    stepped (response_took n wins w i k j o)
  deliver w i (CHECK k j t) = do
    need (client_at w k).living PartyDown
    stepped (check_took w i k j t)

  unfoldable pub event : System → Event → EventOutcome
  event w (Try k) = do
    need (has w.clients k.0) NoSuchParty
    need (client_at w k).living PartyDown
    try_checked (client_at w k).state
    stepped (tried n w k)
  event w (Exit k) = do
    need (has w.clients k.0) NoSuchParty
    need (client_at w k).living PartyDown
    exit_checked (client_at w k).state
    stepped (exited n w k)
  event w (Fall k) = do
    need (has w.clients k.0) NoSuchParty
    need (client_at w k).living PartyDown
    stepped (fallen w k)
  event w (Down j) = do
    need (has w.servers j.0) NoSuchParty
    need (server_at w j).up PartyDown
    stepped (went_down w j)
  event w (Up j) = do
    need (has w.servers j.0) NoSuchParty
    need (not (server_at w j).up) PartyDown
    stepped (came_up w j)
  event w (Take i) = do
    m ← found (pending i.0 w.transit) NoSuchParty
    deliver w i.0 m
  event w (Drop i) = do
    need (present i.0 w.transit) NoSuchParty
    stepped (dropped w i.0)
  event w (Miss j) = do
    need (has w.servers j.0) NoSuchParty
    need (server_at w j).up PartyDown
    by_owner (server_at w j).state.owner (refused NoOwner) (λ o. do
      need (not (client_at w o.client).living) OwnerLives
      stepped (suspected w j))
  event w (Check j) = do
    need (has w.servers j.0) NoSuchParty
    need (server_at w j).up PartyDown
    stepped (asked w j)

-- Refusal 19, last, where there is room for so many messages in transit and numbers up to `last`: an event that sends
-- nothing is never refused for it. A run has no such limit, the simulation has it.
abbrev pub nothing : List Message → Bool
nothing [] = true
nothing (m ∷ l) = false

unfoldable pub with_places : ℕ → ℕ → EventOutcome → EventOutcome
with_places places last (refused x) = refused x
with_places places last (stepped s) =
    if nothing s.sent then stepped s
    else if leb (length s.state.transit) places && leb s.state.sent last then stepped s
    else refused SystemFull
