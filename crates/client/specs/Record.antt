-- The client's record: a head, and the responses in a row. Which records are valid, and how a record and the state of Figure 1 are one another.
use Rattle.std.specs.Prelude.{ℕ, ◌*◌, Bool, true, ◌&&◌, not, List, map, eqb, leb, ltb, Option}
use Rattle.ids.specs.Lists.{every}
use Rattle.ids.specs.Limits.{within, max_servers, max_timestamp, valid_client, valid_owner}
use Rattle.ids.specs.declared.ClientId.{ClientId}
use Rattle.ids.specs.declared.Timestamp.{Timestamp}
use Rattle.ids.specs.declared.Request.{Request}
use Rattle.rows.specs.Rows.{row_of}
use Rattle.rows.specs.Good.{good_row}
use Rattle.client_responses.specs.declared.Section.{Section}
use Rattle.client_responses.specs.declared.Section.TheVariants.{Remainder, Trying, Critical}
use Rattle.client_responses.specs.Figure1.{State, Quorum, enough, filled, count, own}
use Rattle.client_responses.specs.Row.{place, responses_in, own_is_current}
use Rattle.client.specs.declared.Client.{Client}
use Rattle.client.specs.declared.Head.{Head}

-- the places of a record by value, one for each server that it can have, and the words of its row
abbrev pub max_places : ℕ
max_places = max_servers

abbrev pub row_words : ℕ
row_words = 2 * max_places

abbrev pub client_of : Head → List ℕ → Client
client_of h row = record { head = h; row = row }

-- the state that a record holds: the responses of its n servers
unfoldable pub view : Client → State
view c =
    record {
      section = c.head.section;
      timestamp = c.head.timestamp;
      seen = c.head.seen;
      responses = responses_in c.row c.head.n;
    }

-- the head that holds a state, and the record with so many places: those past its responses are empty
abbrev pub head_in : ℕ → ℕ → ClientId → State → Head
head_in n m k s = record { n = n; m = m; id = k; section = s.section; timestamp = s.timestamp; seen = s.seen }

unfoldable pub store_in : ℕ → ℕ → ℕ → ClientId → State → Client
store_in places n m k s = client_of (head_in n m k s) (row_of (2 * places) (map place s.responses))

-- by value
abbrev pub store : ℕ → ℕ → ClientId → State → Client
store = store_in max_places

-- n servers, as many as the limit at most, and a threshold m of them
abbrev pub valid_sizes_up_to : ℕ → ℕ → ℕ → Bool
valid_sizes_up_to limit n m = within n limit && within m n

abbrev pub valid_sizes : ℕ → ℕ → Bool
valid_sizes = valid_sizes_up_to max_servers

-- the tests that go with the section: in the remainder section no response; trying, not enough of them; in the critical section enough of
-- its own, and, by document 01's bar on a holder's other answers, no more than m in all
abbrev pub fits_section : Quorum → Section → Request → List (Option Request) → Bool
fits_section wins Remainder r l = eqb (count (map filled l)) 0
fits_section wins Trying r l = not (wins (map filled l))
fits_section wins Critical r l = wins (own r l)

abbrev pub no_more : Section → ℕ → List (Option Request) → Bool
no_more Remainder m l = true
no_more Trying m l = true
no_more Critical m l = leb (count (map filled l)) m

-- it tries or is in the critical section with a timestamp that was taken and is not the largest
abbrev pub fits_timestamp : Section → Timestamp → Bool
fits_timestamp Remainder t = true
fits_timestamp Trying t = leb 1 t.0 && ltb t.0 max_timestamp
fits_timestamp Critical t = leb 1 t.0 && ltb t.0 max_timestamp

-- document 01's paragraph 'A record is broken if ..', turned round; the largest timestamp seen may be any
unfoldable pub valid_up_to : ℕ → Client → Bool
valid_up_to limit c =
    let h : Head = c.head in
    let r : Request = record { client = h.id; timestamp = h.timestamp } in
    let l : List (Option Request) = (view c).responses in
    valid_sizes_up_to limit h.n h.m && valid_client h.id && fits_timestamp h.section h.timestamp && good_row c.row h.n
    && every valid_owner l && every (own_is_current r) l && fits_section (enough h.m) h.section r l && no_more h.section h.m l

abbrev pub valid : Client → Bool
valid = valid_up_to max_servers
