-- Records that a host has saved, taken over as records of today: document 02, L3 and L4. The number of words tells a record's form, and each form is
-- judged by the rules of its own time.
--   form   from          server   client
--   1      document 01   37       67
--   2      L3            69       515
--   3      L4            69       516
use Rattle.std.specs.Prelude.{ℕ, ◌+◌, ◌*◌, ◌-◌, Bool, ◌&&◌, ◌||◌, List, ◌∷◌, ◌++◌, eqb, length, take, drop, replicate, if◌then◌else◌}
use Rattle.ids.specs.Limits.{max_servers, earlier_servers}
use Rattle.server.specs.Record as server
use Rattle.client.specs.Record as client
use Rattle.words.specs.Records.{server_size_of, client_size_of, client_size, holds_server_of, server_from, holds_client_of, client_from}

-- the rows of form 1: document 01's places of a waiting line, and a place for each of its servers
abbrev pub earlier_places : ℕ
earlier_places = 16

abbrev pub earlier_queue : ℕ
earlier_queue = 2 * earlier_places

abbrev pub earlier_responses : ℕ
earlier_responses = 2 * earlier_servers

-- words that hold a record with a row of `row` words, which is valid where `limit` servers are the most
unfoldable pub sound_server : ℕ → ℕ → List ℕ → Bool
sound_server row limit ws = holds_server_of row ws && server.valid_up_to limit (server_from ws)

unfoldable pub sound_client : ℕ → ℕ → List ℕ → Bool
sound_client row limit ws = holds_client_of row ws && client.valid_up_to limit (client_from ws)

-- a saved server that is not broken, in one form or the other
unfoldable pub saved_server : List ℕ → Bool
saved_server ws = sound_server earlier_queue earlier_servers ws || sound_server server.row_words max_servers ws

-- the same of a client whose words stand in today's order, with form 1's places or today's
unfoldable pub ordered_client : List ℕ → Bool
ordered_client ws = sound_client earlier_responses earlier_servers ws || sound_client client.row_words max_servers ws

-- FORM 1 TO FORM 2: its line or answers in front, the other places empty. A client's words stand in today's order by then (`ordered`, below).
unfoldable pub server_now : List ℕ → List ℕ
server_now ws = if eqb (length ws) (server_size_of earlier_queue) then ws ++ replicate (server.row_words - earlier_queue) 0 else ws

unfoldable pub wider_client : List ℕ → List ℕ
wider_client ws = if eqb (length ws) (client_size_of earlier_responses) then ws ++ replicate (client.row_words - earlier_responses) 0 else ws

-- FORM 2 TO FORM 3: of a client, which had five numbers before its places. It has seen nothing, which stands behind the timestamp; since no rule of a
-- valid record speaks of what was seen, the rules of its own time are today's.
abbrev pub earlier_head : ℕ
earlier_head = 5

abbrev pub earlier_size_of : ℕ → ℕ
earlier_size_of row = earlier_head + row

abbrev pub unseen : List ℕ → List ℕ
unseen ws = take earlier_head ws ++ (0 ∷ drop earlier_head ws)

unfoldable pub ordered : List ℕ → List ℕ
ordered ws = if eqb (length ws) client_size then ws else unseen ws

-- a saved client that is not broken, in one of its three forms, and the record of today that it becomes
abbrev pub saved_client : List ℕ → Bool
saved_client ws = ordered_client (ordered ws)

abbrev pub client_now : List ℕ → List ℕ
client_now ws = wider_client (ordered ws)
