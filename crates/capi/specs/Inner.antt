-- Definitions that only the contracts of private functions cite: no promise rests on them.
use Rattle.wire.specs.declared.Sent.{Sent}
use Rattle.ids.specs.declared.Refusal.{Refusal}
use Rattle.std.specs.Prelude.{ℕ, ◌≤◌, ◌≡◌, List, [], ◌∷◌, Ok, Err, Result, ⊤}
use Rattle.std.proofs.lemmas.List.Edits.{sets}
use Rattle.ids.specs.Refusals.{code}
use Rattle.ids.specs.declared.Refusal.TheVariants.{RoomShort}
use Rattle.wire.specs.Step.{Outcome, refused, stepped}
use Rattle.server_votes.specs.Figure1 as votes
use Rattle.server.specs.Record as server
use Rattle.server.specs.Calls as server_calls
use Rattle.server.specs.Parts.{three_mails}
use Rattle.server.specs.declared.Turned.{Turned}
use Rattle.server.specs.declared.Server.{Server}
use Rattle.client_responses.specs.Figure1 as client-state
use Rattle.client.specs.Calls as client_calls
use Rattle.client.specs.declared.Client.{Client}
use Rattle.words.specs.Records.{max_word, server_words}
use Rattle.capi.specs.declared.ServerCall.{ServerCall}
use Rattle.capi.specs.declared.ServerCall.TheVariants.{Message as ServerMessage, Suspect, Check}
use Rattle.capi.specs.declared.ClientCall.{ClientCall}
use Rattle.capi.specs.declared.ClientCall.TheVariants.{Message as ClientMessage, Begin, Exit}

abbrev pub answer_code : Result Sent Refusal → ℕ
answer_code (Err e) = code e
answer_code (Ok s) = 0

-- with the words of the new record
abbrev pub answer_record : List ℕ → List ℕ → Result Sent Refusal → List ℕ
answer_record new ws (Err e) = ws
answer_record new ws (Ok s) = sets ws 0 new

abbrev pub answer_counts : List ℕ → Result Sent Refusal → List ℕ
answer_counts sent (Err e) = sent
answer_counts sent (Ok s) = sets sent 0 (s.messages ∷ (s.bytes ∷ []))

-- where the counts have no room
abbrev pub short_code : {A : Type 0} → Outcome A → ℕ
short_code (refused e) = code e
short_code (stepped p) = code RoomShort

abbrev pub short_answer : Result Sent Refusal → ℕ
short_answer (Err e) = code e
short_answer (Ok s) = code RoomShort

-- what an answer counts fits a word
pub record Storable (a : Result Sent Refusal) : Type 0 where
  pub few : (s : Sent) → a ≡ Ok s → (s.messages ≤ max_word) × (s.bytes ≤ max_word)

-- a server's step on a lent row, with the record as words: one that was made, and any
abbrev pub accepted_words : Turned → List ℕ → Outcome (List ℕ)
accepted_words t row =
    stepped (record { state = server_words (server.server_of t.head row); sent = three_mails t.first t.second t.third })

abbrev pub ruled_words : Result ⊤ Refusal → Outcome (List ℕ) → Outcome (List ℕ)
ruled_words (Err e) o = refused e
ruled_words (Ok tt) o = o

abbrev pub turned_words : Turned → List ℕ → Outcome (List ℕ)
turned_words t row = ruled_words t.ruling (accepted_words t row)

-- the code's own names for the steps of a record
abbrev pub server_outcome : ServerCall → Server → Outcome votes.State
server_outcome (ServerMessage m) s = server_calls.message_outcome s m
server_outcome Suspect s = server_calls.suspect_outcome s
server_outcome Check s = server_calls.check_outcome s

abbrev pub client_outcome : ClientCall → Client → Outcome client-state.State
client_outcome (ClientMessage m) c = client_calls.message_outcome c m
client_outcome Begin c = client_calls.begin_outcome c
client_outcome Exit c = client_calls.exit_outcome c
