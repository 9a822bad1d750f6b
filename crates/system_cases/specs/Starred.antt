-- Document 01, 'Rehearsed cases': the rows and settings marked with a star, as one list, in its order. The server is number 1.
use Rattle.std.specs.Prelude.{ℕ, ◌≡◌, List, [], ◌∷◌, pos, Some, None, Option}
use Rattle.ids.specs.declared.ClientId.{ClientId}
use Rattle.ids.specs.declared.ServerId.{ServerId}
use Rattle.ids.specs.declared.Request.{Request}
use Rattle.wire.specs.declared.Message.{Message}
use Rattle.wire.specs.declared.Message.TheVariants.{Request as REQUEST, Yield as YIELD, Inquiry as INQUIRY, Response as RESPONSE}
use Rattle.server_votes.specs.declared.Tag.{Tag}
use Rattle.server_votes.specs.declared.Tag.TheVariants.{Request as Asks, Yield as Yields, Release as Releases}
use Rattle.server_votes.specs.Figure1.{State as ServerState, receive}
use Rattle.client_responses.specs.declared.Section.TheVariants.{Trying}
use Rattle.client_responses.specs.Figure1.{State as ClientState, enough, responds}
use Rattle.quorum.specs.declared.Verdict.{Verdict}
use Rattle.quorum.specs.declared.Verdict.TheVariants.{Accepted, Unsafe, Stalls}
use Rattle.quorum.specs.Check.{verdict}

pub data Case : Type 0 where
  -- a setting n, m, f and what the check says of it
  of_setting : ℕ → ℕ → ℕ → Verdict → Case
  -- a server's state, the tag and the sender's request; the state afterwards and the messages sent, in order
  at_server : ServerState → Tag → Request → ServerState → List Message → Case
  -- a client's n, m, number and state, and a RESPONSE by its server and owner; the same afterwards
  at_client : ℕ → ℕ → ClientId → ClientState → ServerId → Option Request → ClientState → List Message → Case

abbrev pub client : ℕ → ClientId
client k = record { 0 = k }

abbrev pub server : ℕ → ServerId
server j = record { 0 = j }

abbrev pub pair : ℕ → ℕ → Request
pair k t = record { client = client k; timestamp = record { 0 = t } }

abbrev pub votes : Option Request → List Request → ServerState
votes o l = record { owner = o; queue = l }

-- server 1 tells client k that o is its owner
abbrev pub tells : ℕ → Option Request → Message
tells k o = RESPONSE (client k) (server 1) o

-- client 5 tries with timestamp 3, the largest that it has seen too, and has these responses
abbrev pub trying : List (Option Request) → ClientState
trying l = record { section = Trying; timestamp = record { 0 = 3 }; seen = record { 0 = 3 }; responses = l }

abbrev pub own_from_two : ClientState
own_from_two = trying (Some (pair 5 3) ∷ Some (pair 5 3) ∷ None ∷ None ∷ [])

abbrev pub emptied : ClientState
emptied = trying (None ∷ None ∷ None ∷ None ∷ [])

unfoldable pub starred : List Case
starred =
    at_server (votes None []) Asks (pair 5 1) (votes (Some (pair 5 1)) []) (tells 5 (Some (pair 5 1)) ∷ [])
    ∷ at_server (votes (Some (pair 5 3)) []) Asks (pair 5 3) (votes (Some (pair 5 3)) []) []
    ∷ at_server (votes (Some (pair 5 3)) []) Asks (pair 2 3) (votes (Some (pair 5 3)) (pair 2 3 ∷ [])) (tells 2 (Some (pair 5 3)) ∷ [])
    ∷ at_server (votes (Some (pair 5 3)) (pair 2 3 ∷ [])) Yields (pair 5 3) (votes (Some (pair 2 3)) (pair 5 3 ∷ [])) (tells 2 (Some (pair 2 3)) ∷ tells 5 (Some (pair 2 3)) ∷ [])
    ∷ at_server (votes (Some (pair 5 3)) (pair 9 4 ∷ [])) Yields (pair 5 3) (votes (Some (pair 5 3)) (pair 9 4 ∷ [])) (tells 5 (Some (pair 5 3)) ∷ [])
    ∷ at_server (votes None []) Yields (pair 5 3) (votes None []) (tells 5 None ∷ [])
    ∷ at_server (votes (Some (pair 5 3)) (pair 2 3 ∷ [])) Asks (pair 5 6) (votes (Some (pair 2 3)) (pair 5 6 ∷ [])) (tells 2 (Some (pair 2 3)) ∷ tells 5 (Some (pair 2 3)) ∷ [])
    ∷ at_server (votes (Some (pair 5 6)) []) Releases (pair 5 3) (votes (Some (pair 5 6)) []) []
    ∷ at_client 4 3 (client 5) own_from_two (server 3) (Some (pair 2 3)) emptied
    (YIELD (client 5) (server 1) (record { 0 = 3 }) ∷ YIELD (client 5) (server 2) (record { 0 = 3 }) ∷ INQUIRY (client 5) (server 3) (record { 0 = 3 }) ∷ [])
    ∷ at_client 4 3 (client 5) own_from_two (server 3) (Some (pair 9 3)) emptied
    (YIELD (client 5) (server 1) (record { 0 = 3 }) ∷ YIELD (client 5) (server 2) (record { 0 = 3 }) ∷ REQUEST (client 5) (server 3) (record { 0 = 3 }) ∷ [])
    ∷ of_setting 4 3 1 (Accepted (pos 1))
    ∷ of_setting 3 2 1 (Unsafe (pos 0) 12)
    ∷ of_setting 4 4 1 (Stalls (pos 3))
    ∷ []

-- what a case says of the definitions
abbrev pub Holds : Case → Type 0
Holds (of_setting n m f v) = verdict n m f ≡ v
Holds (at_server q tag r after sent) = receive (server 1) tag r q ≡ record { state = after; sent = sent }
Holds (at_client n m k c j o after sent) = responds (enough m) n k j o c ≡ record { state = after; sent = sent }

abbrev pub All : List Case → Type 0
All [] = Unit {0}
All (c ∷ l) = Holds c × All l
