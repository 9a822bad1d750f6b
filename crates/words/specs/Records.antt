-- How a record crosses to C: 32-bit words in a fixed order, 0 for none. Some numbers, its head, then the row of its places as it stands.
use Rattle.std.specs.Prelude.{ℕ, ◌+◌, ◌≤◌, ◌≡◌, Bool, true, ◌&&◌, List, [], ◌∷◌, ◌++◌, eqb, leb, length, get_or, drop, if◌then◌else◌, Some, None, Option}
use Rattle.ids.specs.Limits.{max_short}
use Rattle.wire.specs.Format.{owner_of, owner_client, owner_timestamp}
use Rattle.server.specs.Record as server
use Rattle.server.specs.declared.Head.{Head as ServerHead}
use Rattle.server.specs.declared.Server.{Server}
use Rattle.client.specs.Record as client
use Rattle.client.specs.declared.Head.{Head as ClientHead}
use Rattle.client.specs.declared.Client.{Client}
use Rattle.client_responses.specs.declared.Section.{Section}
use Rattle.client_responses.specs.declared.Section.TheVariants.{Remainder, Trying, Critical}

-- the largest number of a word
abbrev pub max_word : ℕ
max_word = 4294967295

-- the numbers before the places of either record, and the words of one with a row of so many words
abbrev pub server_head : ℕ
server_head = 5

abbrev pub client_head : ℕ
client_head = 6

abbrev pub server_size_of : ℕ → ℕ
server_size_of row = server_head + row

abbrev pub client_size_of : ℕ → ℕ
client_size_of row = client_head + row

-- the words of the records that a C host keeps, which have the rows of those by value
abbrev pub server_size : ℕ
server_size = server_size_of server.row_words

abbrev pub client_size : ℕ
client_size = client_size_of client.row_words

-- a server: n, its number, the owner's client and timestamp, the queue's length, its places
unfoldable pub server_head_words : ServerHead → List ℕ
server_head_words h =
    h.n ∷ h.id.0 ∷ owner_client h.votes.owner ∷ owner_timestamp h.votes.owner ∷ h.votes.len ∷ []

unfoldable pub server_words : Server → List ℕ
server_words s = server_head_words s.head ++ s.row

-- a client: n, m, its number, section, timestamp, the largest timestamp seen, a place for each server
abbrev pub section_word : Section → ℕ
section_word Remainder = 0
section_word Trying = 1
section_word Critical = 2

abbrev pub section_of : ℕ → Section
section_of w = if eqb w 0 then Remainder else if eqb w 1 then Trying else Critical

unfoldable pub client_head_words : ClientHead → List ℕ
client_head_words h = h.n ∷ h.m ∷ h.id.0 ∷ section_word h.section ∷ h.timestamp.0 ∷ h.seen.0 ∷ []

unfoldable pub client_words : Client → List ℕ
client_words c = client_head_words c.head ++ c.row

-- The first three words have two bytes in the record. So has the client of a place, but a row with a larger one is not in good order
-- (`good_row`), so that `valid` refuses it with the same 21: the places need no test here.
unfoldable pub fits_head : ℕ → ℕ → ℕ → Bool
fits_head a b c = leb a max_short && (leb b max_short && leb c max_short)

abbrev pub head_fits : List ℕ → Bool
head_fits ws = fits_head (get_or ws 0 0) (get_or ws 1 0) (get_or ws 2 0)

-- words that hold a record with a row of so many words
unfoldable pub holds_server_of : ℕ → List ℕ → Bool
holds_server_of row ws = eqb (length ws) (server_size_of row) && head_fits ws

unfoldable pub holds_client_of : ℕ → List ℕ → Bool
holds_client_of row ws = eqb (length ws) (client_size_of row) && (leb (get_or ws 3 0) 2 && head_fits ws)

abbrev pub holds_server : List ℕ → Bool
holds_server = holds_server_of server.row_words

abbrev pub holds_client : List ℕ → Bool
holds_client = holds_client_of client.row_words

-- words from which a head of so many can be read
pub record Headed (head : ℕ) (ws : List ℕ) : Type 0 where
  pub long : head ≤ length ws
  pub small : head_fits ws ≡ true

-- the record that such words are
unfoldable pub server_head_from : List ℕ → ServerHead
server_head_from ws =
    record {
      n = get_or ws 0 0;
      id = record { 0 = get_or ws 1 0 };
      votes = record { owner = owner_of (record { 0 = get_or ws 2 0 }) (record { 0 = get_or ws 3 0 }); len = get_or ws 4 0 };
    }

abbrev pub server_from : List ℕ → Server
server_from ws = server.server_of (server_head_from ws) (drop server_head ws)

unfoldable pub client_head_from : List ℕ → ClientHead
client_head_from ws =
    record {
      n = get_or ws 0 0;
      m = get_or ws 1 0;
      id = record { 0 = get_or ws 2 0 };
      section = section_of (get_or ws 3 0);
      timestamp = record { 0 = get_or ws 4 0 };
      seen = record { 0 = get_or ws 5 0 };
    }

abbrev pub client_from : List ℕ → Client
client_from ws = client.client_of (client_head_from ws) (drop client_head ws)

-- the record with a row of so many words that these words are, if they are one
abbrev pub server_in_of : ℕ → List ℕ → Option Server
server_in_of row ws = if holds_server_of row ws then Some (server_from ws) else None

abbrev pub client_in_of : ℕ → List ℕ → Option Client
client_in_of row ws = if holds_client_of row ws then Some (client_from ws) else None

abbrev pub server_in : List ℕ → Option Server
server_in = server_in_of server.row_words

abbrev pub client_in : List ℕ → Option Client
client_in = client_in_of client.row_words
