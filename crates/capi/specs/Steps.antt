-- The step calls of C. Each has one outcome: the refusal, or the words of the new record with the messages sent. What it returns and what it
-- leaves in record, buffer and counts are four short functions of that outcome.
use Rattle.std.specs.Prelude.{ℕ, ◌≡◌, Bool, ◌&&◌, not, List, [], ◌∷◌, ltb, leb, length, if◌then◌else◌, Some, None, Option}
use Rattle.std.proofs.lemmas.List.Edits.{sets}
use Rattle.ids.specs.Choice.{maybe}
use Rattle.ids.specs.Limits.{valid_client}
use Rattle.ids.specs.Refusals.{code}
use Rattle.ids.specs.declared.Refusal.TheVariants.{NumberOutOfRange, RoomShort, ParameterOutOfRange, InvalidRecord}
use Rattle.wire.specs.Format.{size_of_all}
use Rattle.wire.specs.Step.{Outcome, refused, stepped, stay, with_room, sent_into}
use Rattle.wire.specs.declared.Message.{Message}
use Rattle.server_votes.specs.Figure1 as votes
use Rattle.server.specs.Record as server
use Rattle.server.specs.Calls as server_calls
use Rattle.server.specs.declared.Server.{Server}
use Rattle.client_responses.specs.Figure1 as client-state
use Rattle.client.specs.Record as client
use Rattle.client.specs.Calls as client_calls
use Rattle.client.specs.declared.Client.{Client}
use Rattle.words.specs.Messages.{message_in}
use Rattle.words.specs.Records.{server_in, server_size, server_words, client_in, client_size, client_words}
use Rattle.saved.specs.Forms as saved

module _ {A : Type 0} where
  -- an outcome with the new state as the words of its record
  abbrev pub in_words : (A → List ℕ) → Outcome A → Outcome (List ℕ)
  in_words f (refused e) = refused e
  in_words f (stepped p) = stepped (record { state = f p.state; sent = p.sent })

  -- refusal 6 once more: two words are needed for the counts of what was sent
  abbrev pub with_counts : ℕ → Outcome A → Outcome A
  with_counts room (refused e) = refused e
  with_counts room (stepped p) = if ltb room 2 then refused RoomShort else stepped p

  -- the outcome in the buffer and the words that were lent
  abbrev pub lent : List ℕ → List ℕ → Outcome A → Outcome A
  lent out sent o = with_counts (length sent) (with_room (length out) o)

  -- what the call returns: 0, or the refusal's number
  abbrev pub code_of : Outcome A → ℕ
  code_of (refused e) = code e
  code_of (stepped p) = 0

  -- the counts afterwards: the messages sent, and their bytes
  abbrev pub counts_into : List ℕ → Outcome A → List ℕ
  counts_into sent (refused e) = sent
  counts_into sent (stepped p) = sets sent 0 (length p.sent ∷ (size_of_all p.sent ∷ []))

-- the record afterwards
abbrev pub record_into : List ℕ → Outcome (List ℕ) → List ℕ
record_into ws (refused e) = ws
record_into ws (stepped p) = sets ws 0 p.state

-- a call with this outcome returns r, and leaves the record ws, the buffer out and the words sent as they are named with a stroke
pub record Leaves (o : Outcome (List ℕ)) (r : ℕ) (ws ws' out out' sent sent' : List ℕ) : Type 0 where
  pub returned : r ≡ code_of o
  pub stored : ws' ≡ record_into ws o
  pub written : out' ≡ sent_into out o
  pub counted : sent' ≡ counts_into sent o

-- a step on the record that the words are; 21 if they are none
abbrev pub server_with : Server → votes.State → List ℕ
server_with s q = server_words (server_calls.server_after s (stepped (stay q)))

unfoldable pub on_server : List ℕ → (Server → Outcome votes.State) → Outcome (List ℕ)
on_server ws f = maybe (server_in ws) (refused InvalidRecord) (λ s. in_words (server_with s) (f s))

abbrev pub client_with : Client → client-state.State → List ℕ
client_with c q = client_words (client_calls.client_after c (stepped (stay q)))

unfoldable pub on_client : List ℕ → (Client → Outcome client-state.State) → Outcome (List ℕ)
on_client ws f = maybe (client_in ws) (refused InvalidRecord) (λ c. in_words (client_with c) (f c))

-- the server takes a message; 5, behind 21, for words that are none
abbrev pub server_takes : Option Message → Server → Outcome votes.State
server_takes None s = if server.valid s then refused NumberOutOfRange else refused InvalidRecord
server_takes (Some m) s = server_calls.message_outcome s m

abbrev pub client_takes : Option Message → Client → Outcome client-state.State
client_takes None c = if client.valid c then refused NumberOutOfRange else refused InvalidRecord
client_takes (Some m) c = client_calls.message_outcome c m

-- THE CALLS, on the words of a record and, for a message, its words
abbrev pub server_message : List ℕ → List ℕ → Outcome (List ℕ)
server_message ws ms = on_server ws (server_takes (message_in ms))

abbrev pub server_suspect : List ℕ → Outcome (List ℕ)
server_suspect ws = on_server ws server_calls.suspect_outcome

abbrev pub server_check : List ℕ → Outcome (List ℕ)
server_check ws = on_server ws server_calls.check_outcome

abbrev pub client_message : List ℕ → List ℕ → Outcome (List ℕ)
client_message ws ms = on_client ws (client_takes (message_in ms))

abbrev pub client_begin : List ℕ → Outcome (List ℕ)
client_begin ws = on_client ws client_calls.begin_outcome

abbrev pub client_exit : List ℕ → Outcome (List ℕ)
client_exit ws = on_client ws client_calls.exit_outcome

-- a new record, in so many words lent, or 7
unfoldable pub server_new : ℕ → ℕ → ℕ → Outcome (List ℕ)
server_new n j room =
    if leb server_size room && server.valid_sizes n (record { 0 = j }) then
    stepped (stay (server_words (server_calls.empty_server n (record { 0 = j }))))
    else refused ParameterOutOfRange

unfoldable pub client_new : ℕ → ℕ → ℕ → ℕ → Outcome (List ℕ)
client_new n m k room =
    if leb client_size room && (client.valid_sizes n m && valid_client (record { 0 = k })) then
    stepped (stay (client_words (client.store n m (record { 0 = k }) (client-state.fresh n))))
    else refused ParameterOutOfRange

-- a saved record taken over (document 02, L3): 21 if it is broken, then 6 where fewer words are lent than a record has
unfoldable pub upgrade : Bool → ℕ → ℕ → List ℕ → Outcome (List ℕ)
upgrade sound size room ws =
    if not sound then refused InvalidRecord
    else if ltb room size then refused RoomShort
    else stepped (stay ws)

abbrev pub server_upgrade : List ℕ → ℕ → Outcome (List ℕ)
server_upgrade ws room = upgrade (saved.saved_server ws) server_size room (saved.server_now ws)

abbrev pub client_upgrade : List ℕ → ℕ → Outcome (List ℕ)
client_upgrade ws room = upgrade (saved.saved_client ws) client_size room (saved.client_now ws)
