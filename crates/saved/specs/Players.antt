-- Players from before document 02, L3, whose messages reach players of today and whose records are taken over (`Forms`): they know the servers 1 to 31, and
-- their reading, writing and steps are today's definitions at that limit; a client has no clock, so that it takes a message by Figure 1's lines alone. They
-- answer as today, but 5 for a message of a server that they do not know; a client leaves what today's does but for what it has seen.
use Rattle.ids.specs.declared.Refusal.{Refusal}
use Rattle.std.specs.Prelude.{ℕ, Bool, not, List, leb, if◌then◌else◌, Ok, Err, Result}
use Rattle.ids.specs.Limits.{earlier_servers}
use Rattle.ids.specs.declared.Refusal.TheVariants.{NumberOutOfRange, NotForClient, InvalidRecord}
use Rattle.wire.specs.Format as format
use Rattle.wire.specs.Format.{server_named}
use Rattle.wire.specs.Calls.{read_up_to, write_up_to, buffer_after_up_to}
use Rattle.wire.specs.Step.{Step, Outcome, refused, stepped}
use Rattle.wire.specs.declared.Message.{Message}
use Rattle.wire.specs.declared.Message.TheVariants.{Request, Yield, Release, Inquiry, Response, Check}
use Rattle.server.specs.Calls as server
use Rattle.server.specs.declared.Server.{Server}
use Rattle.server_votes.specs.Figure1 as votes
use Rattle.client.specs.Record.{view, valid_up_to}
use Rattle.client.specs.Calls as client
use Rattle.client.specs.declared.Client.{Client}
use Rattle.client_responses.specs.Figure1 as responses

-- an old player's calls
abbrev pub earlier_read : List ℕ → Result (Message × ℕ) Refusal
earlier_read = read_up_to earlier_servers

abbrev pub earlier_write : Message → ℕ → Result ℕ Refusal
earlier_write = write_up_to earlier_servers

abbrev pub earlier_buffer : Message → List ℕ → List ℕ
earlier_buffer = buffer_after_up_to earlier_servers

abbrev pub earlier_server_takes : Server → Message → Outcome votes.State
earlier_server_takes = server.message_outcome_up_to earlier_servers

-- a client's state without what it has seen; a step, and an outcome, that leaves such a state
abbrev pub blind : responses.State → responses.State
blind c = record { section = c.section; timestamp = c.timestamp; seen = record { 0 = 0 }; responses = c.responses }

abbrev pub blind_step : Step responses.State → Step responses.State
blind_step p = record { state = blind p.state; sent = p.sent }

abbrev pub leaving_blind : Outcome responses.State → Outcome responses.State
leaving_blind (refused e) = refused e
leaving_blind (stepped p) = stepped (blind_step p)

-- a client from before L4 takes a message in range: 12, or Figure 1's lines alone
unfoldable pub earlier_received : Client → Message → Outcome responses.State
earlier_received c (Request k j t) = refused NotForClient
earlier_received c (Yield k j t) = refused NotForClient
earlier_received c (Release k j t) = refused NotForClient
earlier_received c (Inquiry k j t) = refused NotForClient
earlier_received c (Response k j o) =
    if client.for_client c.head k j then stepped (responses.upon_response (responses.enough c.head.m) c.head.n k j o (blind (view c)))
    else refused NotForClient
earlier_received c (Check k j t) =
    if client.for_client c.head k j then stepped (responses.upon_check k j t (blind (view c))) else refused NotForClient

-- and any message, where there are at most so many servers: 21 and 5 come first. Between L3 and L4 these were as many as today.
unfoldable pub clockless_takes : ℕ → Client → Message → Outcome responses.State
clockless_takes limit c m =
    if not (valid_up_to limit c) then refused InvalidRecord
    else if not (format.valid_up_to limit m) then refused NumberOutOfRange
    else earlier_received c m

abbrev pub earlier_client_takes : Client → Message → Outcome responses.State
earlier_client_takes = clockless_takes earlier_servers

-- such a player knows the server that a message names
abbrev pub earlier_knows : Message → Bool
earlier_knows m = leb (server_named m).0 earlier_servers

-- today's answers, as an old player gives them
abbrev pub read_known : Result (Message × ℕ) Refusal → Result (Message × ℕ) Refusal
read_known (Err e) = Err e
read_known (Ok (m, n)) = if earlier_knows m then Ok (m, n) else Err NumberOutOfRange

abbrev pub write_known : Message → Result ℕ Refusal → Result ℕ Refusal
write_known m w = if earlier_knows m then w else Err NumberOutOfRange

abbrev pub take_known : {A : Type 0} → Message → Outcome A → Outcome A
take_known m o = if earlier_knows m then o else refused NumberOutOfRange
