-- What a run has to do with the calls that a host makes: the record that each client and each server of a system is stored as, and the call that each
-- accepted event is on such a record.
use Rattle.std.specs.Prelude.{ℕ, ◌*◌, ◌≤◌, ◌≡◌, true, Ok, Some}
use Rattle.ids.specs.Limits.{within}
use Rattle.ids.specs.declared.ClientId.{ClientId}
use Rattle.ids.specs.declared.ServerId.{ServerId}
use Rattle.wire.specs.Format.{message_bytes}
use Rattle.wire.specs.Step.{Step, Outcome, stepped, with_room}
use Rattle.wire.specs.declared.Message.{Message}
use Rattle.wire.specs.declared.Message.TheVariants.{Request as REQUEST, Yield as YIELD, Release as RELEASE, Inquiry as INQUIRY, Response as RESPONSE, Check as CHECK}
use Rattle.server_votes.specs.Figure1 as votes
use Rattle.server.specs.Record as server
use Rattle.server.specs.Calls as server_calls
use Rattle.server.specs.declared.Server.{Server}
use Rattle.client_responses.specs.Figure1.{enough, State}
use Rattle.client.specs.Record as client
use Rattle.client.specs.Calls as client_calls
use Rattle.client.specs.declared.Client.{Client}
use Rattle.sends.specs.Room.{server_room}
use Rattle.system.specs.declared.Event.{Event}
use Rattle.system.specs.declared.Event.TheVariants.{Try, Exit, Fall, Down, Up, Take, Drop, Miss, Check}
use Rattle.system.specs.Numbered.{has}
use Rattle.system.specs.Transit.{pending}
use Rattle.system.specs.Places.{System, client_at, server_at}
use Rattle.system.specs.Events.{event}
use Rattle.system.specs.Runs.{start}

-- the record by value that client k is stored as, of a system with n servers and threshold m, and the one that server j is stored as
abbrev pub client_record : ℕ → ℕ → System → ClientId → Client
client_record n m w k = client.store n m k (client_at w k).state

abbrev pub server_record : ℕ → System → ServerId → Server
server_record n w j = server.store n j (server_at w j).state

-- every client and server that is there is stored as a valid record, from which its state is read again
pub record Stored (n m : ℕ) (w : System) : Type 0 where
  pub client_valid : (k : ClientId) → has w.clients k.0 ≡ true → client.valid (client_record n m w k) ≡ true
  pub client_read : (k : ClientId) → has w.clients k.0 ≡ true → client.view (client_record n m w k) ≡ (client_at w k).state
  pub server_valid : (j : ServerId) → has w.servers j.0 ≡ true → server.valid (server_record n w j) ≡ true
  pub server_read : (j : ServerId) → has w.servers j.0 ≡ true → server.view (server_record n w j) ≡ (server_at w j).state

-- the bytes that a client's caller has to lend: a message to each of its n servers (a server's: `sends/specs` `Room`)
abbrev pub client_room : ℕ → ℕ
client_room n = message_bytes * n

-- The event's step s is client k's call with outcome o, said as the call's contract says it: with a buffer of so many bytes or more the call is accepted,
-- it gives the client's new state and sends what the event sends, and the record that it leaves is the one that the client is stored as afterwards.
pub record ClientCalled (n m : ℕ) (w : System) (k : ClientId) (s : Step System) (o : Outcome State) : Type 0 where
  pub accepted : (room : ℕ) → client_room n ≤ room → with_room room o ≡ stepped (record { state = (client_at s.state k).state; sent = s.sent })
  pub left : (room : ℕ) → client_room n ≤ room → client_calls.client_after (client_record n m w k) (with_room room o) ≡ client_record n m s.state k

-- the same of server j's call
pub record ServerCalled (n : ℕ) (w : System) (j : ServerId) (s : Step System) (o : Outcome votes.State) : Type 0 where
  pub accepted : (room : ℕ) → server_room ≤ room → with_room room o ≡ stepped (record { state = (server_at s.state j).state; sent = s.sent })
  pub left : (room : ℕ) → server_room ≤ room → server_calls.server_after (server_record n w j) (with_room room o) ≡ server_record n s.state j

-- message x is taken by its receiver's call `message`
abbrev pub AtServer : ℕ → System → Step System → ServerId → Message → Type 0
AtServer n w s j x = ServerCalled n w j s (server_calls.message_outcome (server_record n w j) x)

abbrev pub AtClient : ℕ → ℕ → System → Step System → ClientId → Message → Type 0
AtClient n m w s k x = ClientCalled n m w k s (client_calls.message_outcome (client_record n m w k) x)

abbrev pub TakenByCall : ℕ → ℕ → System → Step System → Message → Type 0
TakenByCall n m w s (REQUEST k j t) = AtServer n w s j (REQUEST k j t)
TakenByCall n m w s (YIELD k j t) = AtServer n w s j (YIELD k j t)
TakenByCall n m w s (RELEASE k j t) = AtServer n w s j (RELEASE k j t)
TakenByCall n m w s (INQUIRY k j t) = AtServer n w s j (INQUIRY k j t)
TakenByCall n m w s (RESPONSE k j o) = AtClient n m w s k (RESPONSE k j o)
TakenByCall n m w s (CHECK k j t) = AtClient n m w s k (CHECK k j t)

-- An accepted event with step s is a call: a try `client::begin`, an exit `client::exit`, a take the receiver's `message`, a miss
-- `server::suspect`, a check `server::check`. The other four events call no one.
abbrev pub ByCalls : ℕ → ℕ → System → Event → Step System → Type 0
ByCalls n m w (Try k) s = ClientCalled n m w k s (client_calls.begin_outcome (client_record n m w k))
ByCalls n m w (Exit k) s = ClientCalled n m w k s (client_calls.exit_outcome (client_record n m w k))
ByCalls n m w (Fall k) s = Unit {0}
ByCalls n m w (Down j) s = Unit {0}
ByCalls n m w (Up j) s = Unit {0}
ByCalls n m w (Take i) s = (x : Message) → pending i.0 w.transit ≡ Some x → TakenByCall n m w s x
ByCalls n m w (Drop i) s = Unit {0}
ByCalls n m w (Miss j) s = ServerCalled n w j s (server_calls.suspect_outcome (server_record n w j))
ByCalls n m w (Check j) s = ServerCalled n w j s (server_calls.check_outcome (server_record n w j))

-- The system runs on its records: all are valid, and every accepted event of it is the accepted call. So no call refuses what the run accepts: the
-- record is valid (no 21), the message in range and for its receiver (no 5, 12, 13), the queue has a place (no 14), the room is enough (no 6).
pub record OnRecords (n m : ℕ) (w : System) : Type 0 where
  pub stored : Stored n m w
  pub called : (e : Event) (s : Step System) → event n (enough m) w e ≡ stepped s → ByCalls n m w e s

-- a fresh start with so many clients has the records that the calls `new` give
pub record StartsByNew (n m clients : ℕ) : Type 0 where
  pub client_new : (k : ClientId) → within k.0 clients ≡ true
      → client_calls.new_result n m k ≡ record { client = client_record n m (start n (enough m) clients) k; answer = Ok (record { messages = 0; bytes = 0 }) }
  pub server_new : (j : ServerId) → within j.0 n ≡ true
      → server_calls.new_result n j ≡ record { server = server_record n (start n (enough m) clients) j; answer = Ok (record { messages = 0; bytes = 0 }) }
