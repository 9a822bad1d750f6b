-- The teacher's two slips: what each server and each client of a system knows, a line each. Each is the list of the texts that stand
-- one after another. Document 01 says keeper for server, line for queue, kiosk for client, ticket for timestamp; the lines say so too:
--   keeper 1 owner 1,1 line 2,1     the owner and those who wait, each a kiosk and its ticket
--   keeper 2 free                   no owner
--   keeper 3 down
--   kiosk 1 holding ticket 41 seen 41 keepers 1 2     the section, the last ticket, the largest one seen, and the keepers whose answer is its own
--   kiosk 2 remainder ticket 0 seen 0
--   kiosk 3 fallen
use Rattle.std.specs.Prelude.{ℕ, zero, suc, List, [], ◌∷◌, ◌++◌, if◌then◌else◌, Option}
use Rattle.ids.specs.Requests.{is_request, by_owner}
use Rattle.ids.specs.declared.ClientId.{ClientId}
use Rattle.ids.specs.declared.ServerId.{ServerId}
use Rattle.ids.specs.declared.Request.{Request}
use Rattle.script_numbers.specs.Decimals.{decimal}
use Rattle.text_sheet.specs.Sheet.{ends}
use Rattle.script_lines.specs.Words.{text}
use Rattle.server_votes.specs.Figure1 as votes
use Rattle.client_responses.specs.Figure1 as client
use Rattle.client_responses.specs.declared.Section.{Section}
use Rattle.client_responses.specs.declared.Section.TheVariants.{Remainder, Trying, Critical}
use Rattle.system.specs.Places.{System, ClientPlace, ServerPlace, client_at, server_at}
use Rattle.system.specs.Numbered.{client_no, server_no}

-- a client with one of its timestamps
abbrev pub request_text : Request → List (List ℕ)
request_text r = decimal r.client.0 ∷ text "," ∷ decimal r.timestamp.0 ∷ []

-- those who wait, in order
unfoldable pub requests_text : List Request → List (List ℕ)
requests_text [] = []
requests_text (r ∷ l) = text " " ∷ (request_text r ++ requests_text l)

unfoldable pub queue_text : List Request → List (List ℕ)
queue_text [] = []
queue_text (r ∷ l) = text " line" ∷ requests_text (r ∷ l)

unfoldable pub votes_text : votes.State → List (List ℕ)
votes_text q = by_owner q.owner (text " free" ∷ []) (λ o. text " owner " ∷ (request_text o ++ queue_text q.queue))

-- server j
unfoldable pub server_text : ServerId → ServerPlace → List (List ℕ)
server_text j p = text "keeper " ∷ decimal j.0 ∷ ((if p.up then votes_text p.state else text " down" ∷ []) ++ ends)

-- the servers, from number j, whose response is r
unfoldable pub support_text : Request → ServerId → List (Option Request) → List (List ℕ)
support_text r j [] = []
support_text r j (o ∷ l) = (if is_request r o then text " " ∷ decimal j.0 ∷ [] else []) ++ support_text r (server_no (suc j.0)) l

abbrev pub section_text : Section → List ℕ
section_text Remainder = text " remainder ticket "
section_text Trying = text " trying ticket "
section_text Critical = text " holding ticket "

-- in the remainder section a client has no responses
abbrev pub supporters_text : Section → List (List ℕ) → List (List ℕ)
supporters_text Remainder l = []
supporters_text Trying l = text " keepers" ∷ l
supporters_text Critical l = text " keepers" ∷ l

-- client k of a state
unfoldable pub state_text : ClientId → client.State → List (List ℕ)
state_text k c =
    section_text c.section ∷ decimal c.timestamp.0 ∷ text " seen " ∷ decimal c.seen.0
    ∷ supporters_text c.section (support_text (record { client = k; timestamp = c.timestamp }) (server_no 1) c.responses)

unfoldable pub client_text : ClientId → ClientPlace → List (List ℕ)
client_text k p = text "kiosk " ∷ decimal k.0 ∷ ((if p.living then state_text k p.state else text " fallen" ∷ []) ++ ends)

-- places 1 to n
unfoldable pub servers_text : System → ℕ → List (List ℕ)
servers_text u zero = []
servers_text u (suc j) = servers_text u j ++ server_text (server_no (suc j)) (server_at u (server_no (suc j)))

unfoldable pub clients_text : System → ℕ → List (List ℕ)
clients_text u zero = []
clients_text u (suc k) = clients_text u k ++ client_text (client_no (suc k)) (client_at u (client_no (suc k)))

-- all slips of a system with n servers and so many clients
abbrev pub slips_text : System → ℕ → ℕ → List (List ℕ)
slips_text u n clients = servers_text u n ++ clients_text u clients
