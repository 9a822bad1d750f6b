-- The index of the messages in transit by receiver (document 02, L2), as it is made afresh: for each client and each server the numbers of the
-- messages to it, in the order in which they are in transit, which is ascending, each pending or delivered. And whose list an event may change.
use Rattle.std.specs.Prelude.{ℕ, Bool, false, ◌&&◌, ◌||◌, List, [], ◌∷◌, eqb, if◌then◌else◌}
use Rattle.wire.specs.Step.{refused, stepped}
use Rattle.wire.specs.declared.Message.{Message}
use Rattle.wire.specs.declared.Message.TheVariants.{Request as REQUEST, Yield as YIELD, Release as RELEASE, Inquiry as INQUIRY, Response as RESPONSE, Check as CHECK}
use Rattle.system.specs.declared.Event.{Event}
use Rattle.system.specs.declared.Event.TheVariants.{Try, Exit, Fall, Down, Up, Take, Drop, Miss, Check}
use Rattle.system.specs.declared.Receiver.{Receiver}
use Rattle.system.specs.declared.Receiver.TheVariants.{Client, Server}
use Rattle.system.specs.Transit.{InTransit}
use Rattle.system.specs.Places.{System}
use Rattle.system.specs.Events.{EventOutcome}

-- whom a message is for
abbrev pub receiver_of : Message → Receiver
receiver_of (REQUEST k j t) = Server j
receiver_of (YIELD k j t) = Server j
receiver_of (RELEASE k j t) = Server j
receiver_of (INQUIRY k j t) = Server j
receiver_of (RESPONSE k j o) = Client k
receiver_of (CHECK k j t) = Client k

abbrev pub same_receiver : Receiver → Receiver → Bool
same_receiver (Client k) (Client i) = eqb k.0 i.0
same_receiver (Client k) (Server j) = false
same_receiver (Server j) (Client k) = false
same_receiver (Server j) (Server i) = eqb j.0 i.0

abbrev pub is_to : Receiver → Message → Bool
is_to r m = same_receiver (receiver_of m) r

-- an entry: the message's number, and whether it is delivered
pub record Entry : Type 0 where
  pub number : ℕ
  pub delivered : Bool

abbrev pub entry_of : InTransit → Entry
entry_of x = record { number = x.number; delivered = x.delivered }

-- the list of receiver r
unfoldable pub index_of : Receiver → List InTransit → List Entry
index_of r [] = []
index_of r (x ∷ l) = if is_to r x.message then entry_of x ∷ index_of r l else index_of r l

-- some of the messages is for r
unfoldable pub some_to : Receiver → List Message → Bool
some_to r [] = false
some_to r (m ∷ l) = is_to r m || some_to r l

-- a message with number i is in transit to r
unfoldable pub numbered_to : ℕ → Receiver → List InTransit → Bool
numbered_to i r [] = false
numbered_to i r (x ∷ l) = (eqb x.number i && is_to r x.message) || numbered_to i r l

-- the event takes or drops a message to r, or r is the server that goes down
unfoldable pub reaches : System → Event → Receiver → Bool
reaches w (Try k) r = false
reaches w (Exit k) r = false
reaches w (Fall k) r = false
reaches w (Down j) r = same_receiver (Server j) r
reaches w (Up j) r = false
reaches w (Take i) r = numbered_to i.0 r w.transit
reaches w (Drop i) r = numbered_to i.0 r w.transit
reaches w (Miss j) r = false
reaches w (Check j) r = false

-- r's list may be another after the event e with outcome o: a refused event changes none
unfoldable pub touched : System → Event → EventOutcome → Receiver → Bool
touched w e (refused x) r = false
touched w e (stepped s) r = some_to r s.sent || reaches w e r
