-- A client and a server of a simulation as words: a block each. 0 is none.
-- Client: living (1) or fallen (0), its record, and a flag for each server that a simulation can have, 1 if it was down in the epoch.
-- Server: up (1) or down (0), and its record.
use Rattle.std.specs.Prelude.{ℕ, suc, ◌+◌, ◌*◌, Bool, true, ◌&&◌, ◌||◌, List, [], ◌∷◌, eqb, leb, length, get_or, take, drop, replicate, if◌then◌else◌, Option}
use Rattle.std.proofs.lemmas.List.Edits.{sets}
use Rattle.ids.specs.Lists.{every}
use Rattle.ids.specs.Requests.{by_owner}
use Rattle.ids.specs.declared.ClientId.{ClientId}
use Rattle.ids.specs.declared.ServerId.{ServerId}
use Rattle.ids.specs.declared.Request.{Request}
use Rattle.server_votes.specs.Figure1.{candidates}
use Rattle.server.specs.Record as server
use Rattle.server.specs.Calls.{empty_server_in}
use Rattle.server.specs.declared.Server.{Server}
use Rattle.client.specs.Record as client
use Rattle.client.specs.declared.Client.{Client}
use Rattle.words.specs.Records.{server_size_of, client_size_of, holds_server_of, server_from, holds_client_of, client_from}
use Rattle.system.specs.Limits.{system_clients, system_servers}
use Rattle.system.specs.Places.{ClientPlace, ServerPlace, in_epoch}

-- The rows of a simulation's records: a client has a place for each server, a server's queue one for each client, so that it is never full. A record
-- that a C host keeps has more places of either.
abbrev pub response_words : ℕ
response_words = 2 * system_servers

abbrev pub queue_words : ℕ
queue_words = 2 * system_clients

-- the words of these records, and words that hold one
abbrev pub client_record_size : ℕ
client_record_size = client_size_of response_words

abbrev pub server_record_size : ℕ
server_record_size = server_size_of queue_words

abbrev pub holds_client_record : List ℕ → Bool
holds_client_record = holds_client_of response_words

abbrev pub holds_server_record : List ℕ → Bool
holds_server_record = holds_server_of queue_words

abbrev pub flags_from : ℕ
flags_from = 1 + client_record_size

abbrev pub client_block : ℕ
client_block = flags_from + system_servers

abbrev pub server_block : ℕ
server_block = 1 + server_record_size

-- the parts of a block
abbrev pub client_record : List ℕ → List ℕ
client_record b = take client_record_size (drop 1 b)

abbrev pub flags : List ℕ → List ℕ
flags b = take system_servers (drop flags_from b)

abbrev pub server_record : List ℕ → List ℕ
server_record b = take server_record_size (drop 1 b)

-- the block with no flag set
unfoldable pub cleared : List ℕ → List ℕ
cleared b = sets b flags_from (replicate system_servers 0)

-- the numbers of the flags that are set, counted from j
unfoldable pub flagged : ℕ → List ℕ → List ℕ
flagged j [] = []
flagged j (x ∷ l) = if eqb x 0 then flagged (suc j) l else j ∷ flagged (suc j) l

-- the place that a block is
unfoldable pub client_place : List ℕ → ClientPlace
client_place b =
    record { living = eqb (get_or b 0 0) 1; state = client.view (client_from (client_record b)); downs = flagged 1 (flags b) }

unfoldable pub server_place : List ℕ → ServerPlace
server_place b = record { up = eqb (get_or b 0 0) 1; state = server.view (server_from (server_record b)) }

abbrev pub bit_word : ℕ → Bool
bit_word x = leb x 1

abbrev pub zero_word : ℕ → Bool
zero_word x = eqb x 0

-- an owner or a waiting request names one of so many clients
abbrev pub named : ℕ → Option Request → Bool
named clients o = by_owner o true (λ r. leb r.client.0 clients)

abbrev pub named_pair : ℕ → Request → Bool
named_pair clients r = leb r.client.0 clients

-- the record of client k of a simulation with n servers, threshold m and so many clients
unfoldable pub fits_client : ℕ → ℕ → ℕ → ClientId → Client → Bool
fits_client n m clients k c =
    client.valid c
    && (eqb c.head.n n && (eqb c.head.m m && (eqb c.head.id.0 k.0 && every (named clients) (client.view c).responses)))

-- the flags of n servers; no server counts outside an epoch
unfoldable pub fits_flags : ℕ → Bool → List ℕ → Bool
fits_flags n running l = every bit_word l && (every zero_word (drop n l) && (running || every zero_word l))

-- block number k
unfoldable pub valid_client_block : ℕ → ℕ → ℕ → ClientId → List ℕ → Bool
valid_client_block n m clients k b =
    eqb (length b) client_block
    && (bit_word (get_or b 0 0)
    && (holds_client_record (client_record b)
    && (fits_client n m clients k (client_from (client_record b)) && fits_flags n (in_epoch (client_place b)) (flags b))))

-- the record of server j
unfoldable pub fits_server : ℕ → ℕ → ServerId → Server → Bool
fits_server n clients j s =
    server.valid s && (eqb s.head.n n && (eqb s.head.id.0 j.0 && every (named_pair clients) (candidates (server.view s))))

-- block number j
unfoldable pub valid_server_block : ℕ → ℕ → ServerId → List ℕ → Bool
valid_server_block n clients j b =
    eqb (length b) server_block
    && (bit_word (get_or b 0 0) && (holds_server_record (server_record b) && fits_server n clients j (server_from (server_record b))))

-- the record of a server that forgot everything
abbrev pub emptied : Server → Server
emptied s = empty_server_in queue_words s.head.n s.head.id
