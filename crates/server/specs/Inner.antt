-- Definitions that only the contracts of private functions cite: no promise rests on them.
use Rattle.ids.specs.declared.ClientId.{ClientId}
use Rattle.ids.specs.declared.ServerId.{ServerId}
use Rattle.ids.specs.declared.Timestamp.{Timestamp}
use Rattle.wire.specs.declared.Sent.{Sent}
use Rattle.std.specs.Prelude.{ℕ, Bool, true, false, not, List, [], ◌∷◌, eqb, length, Ok, Err, Result, Some, None, Option, ⊤}
use Rattle.ids.specs.declared.Refusal.{Refusal}
use Rattle.ids.specs.Choice.{maybe}
use Rattle.ids.specs.Requests.{by_owner}
use Rattle.ids.specs.declared.Request.{Request as Pair}
use Rattle.rows.specs.Queue.{timestamp_in}
use Rattle.wire.specs.declared.Message.{Message}
use Rattle.wire.specs.declared.Message.TheVariants.{Request, Yield, Release, Inquiry, Response, Check}
use Rattle.server_votes.specs.declared.Tag.{Tag}
use Rattle.server_votes.specs.declared.Tag.TheVariants.{Request as REQUEST, Yield as YIELD, Release as RELEASE, Inquiry as INQUIRY}
use Rattle.server_votes.specs.declared.Moved.{Moved}
use Rattle.server.specs.declared.Head.{Head}
use Rattle.server.specs.declared.Server.{Server}
use Rattle.server.specs.declared.Stepped.{Stepped}
use Rattle.server.specs.declared.Turned.{Turned}
use Rattle.server.specs.Parts.{three_mails, sent_answer, sent_buffer}

-- a call on a row that is refused, and one whose step m was made
abbrev pub refusing : Head → Refusal → Turned
refusing h e = record { head = h; ruling = Err e; first = None; second = None; third = None }

abbrev pub doing : Head → Moved → Turned
doing h m = record { head = record { n = h.n; id = h.id; votes = m.votes }; ruling = Ok tt; first = m.first; second = m.second; third = m.third }

-- the same call by value: its answer, the buffer, and the record
abbrev pub answers_by : Result ⊤ Refusal → List Message → ℕ → Result Sent Refusal
answers_by (Ok tt) ms room = sent_answer ms room
answers_by (Err e) ms room = Err e

abbrev pub buffers_by : Result ⊤ Refusal → List Message → List ℕ → List ℕ
buffers_by (Ok tt) ms out = sent_buffer ms out
buffers_by (Err e) ms out = out

abbrev pub answering : Turned → ℕ → Result Sent Refusal
answering t room = answers_by t.ruling (three_mails t.first t.second t.third) room

abbrev pub buffering : Turned → List ℕ → List ℕ
buffering t out = buffers_by t.ruling (three_mails t.first t.second t.third) out

abbrev pub keeping : Server → Head → List ℕ → Result Sent Refusal → Stepped
keeping s h row (Err e) = record { server = s; answer = Err e }
keeping s h row (Ok r) = record { server = record { head = h; row = row }; answer = Ok r }

-- the first client of the list stands in it again
abbrev pub repeats : List Pair → Bool
repeats [] = false
repeats (x ∷ l) = maybe (timestamp_in x.client l) false (λ t. true)

-- a queue only behind an owner, and the owner's client not in it
abbrev pub fits_owner : Option Pair → List Pair → Bool
fits_owner o l = by_owner o (eqb (length l) 0) (λ r. not (repeats (r ∷ l)))

-- what a message asks of a server
abbrev pub asked_by : Message → Option (Tag × ClientId × ServerId × Timestamp)
asked_by (Request k j t) = Some (REQUEST, k, j, t)
asked_by (Yield k j t) = Some (YIELD, k, j, t)
asked_by (Release k j t) = Some (RELEASE, k, j, t)
asked_by (Inquiry k j t) = Some (INQUIRY, k, j, t)
asked_by (Response k j o) = None
asked_by (Check k j t) = None
