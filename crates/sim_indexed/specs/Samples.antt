-- An index worked out by hand, from the README's tour (document 01's example of an unsafe setting): client 1 has asked three servers, messages 1 to 3;
-- servers 1 and 2 took theirs and answered, messages 4 and 5. Then server 1 goes down.
use Rattle.std.specs.Prelude.{ℕ, Bool, true, false, List, [], ◌∷◌, ◌++◌, map, replicate, Some}
use Rattle.ids.specs.declared.ClientId.{ClientId}
use Rattle.ids.specs.declared.ServerId.{ServerId}
use Rattle.wire.specs.declared.Message.{Message}
use Rattle.wire.specs.declared.Message.TheVariants.{Request, Response}
use Rattle.system.specs.Transit.{InTransit, again}
use Rattle.system.specs.Index.{Entry}
use Rattle.system.specs.declared.Receiver.{Receiver}
use Rattle.system.specs.declared.Receiver.TheVariants.{Client, Server}

abbrev client : ℕ → ClientId
client k = record { 0 = k }

abbrev server : ℕ → ServerId
server j = record { 0 = j }

abbrev asks : ℕ → Message
asks j = Request (client 1) (server j) (record { 0 = 1 })

abbrev answers : ℕ → Message
answers j = Response (client 1) (server j) (Some (record { client = client 1; timestamp = record { 0 = 1 } }))

abbrev message : ℕ → Bool → Message → InTransit
message i d m = record { number = i; delivered = d; message = m }

abbrev entry : ℕ → Bool → Entry
entry i d = record { number = i; delivered = d }

abbrev pub taken : List InTransit
taken = message 1 true (asks 1) ∷ message 2 true (asks 2) ∷ message 3 false (asks 3) ∷ message 4 false (answers 1) ∷ message 5 false (answers 2) ∷ []

abbrev pub restarted : List InTransit
restarted = map (again (server 1)) taken

-- a receiver, and its lists before and after the restart
pub record Row : Type 0 where
  pub receiver : Receiver
  pub before : List Entry
  pub after : List Entry

abbrev pub rows : List Row
rows =
    record { receiver = Server (server 1); before = entry 1 true ∷ []; after = entry 1 false ∷ [] } ∷
    record { receiver = Server (server 2); before = entry 2 true ∷ []; after = entry 2 true ∷ [] } ∷
    record { receiver = Server (server 3); before = entry 3 false ∷ []; after = entry 3 false ∷ [] } ∷
    record { receiver = Server (server 4); before = []; after = [] } ∷
    record { receiver = Client (client 1); before = entry 4 false ∷ entry 5 false ∷ []; after = entry 4 false ∷ entry 5 false ∷ [] } ∷
    record { receiver = Client (client 2); before = []; after = [] } ∷ []

-- the words before the restart: counts of 31 servers and 16 clients, the numbers, the marks
abbrev pub taken_words : List ℕ
taken_words =
    (1 ∷ 1 ∷ 1 ∷ replicate 28 0) ++ (2 ∷ replicate 15 0)
    ++ (1 ∷ 2 ∷ 3 ∷ 4 ∷ 5 ∷ replicate 507 0)
    ++ (1 ∷ 1 ∷ 0 ∷ 0 ∷ 0 ∷ replicate 507 0)
