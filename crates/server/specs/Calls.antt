-- The server's calls: the row 'keeper' of document 01's table, each number in its order, and what is left in record and buffer.
use Rattle.std.specs.Prelude.{ℕ, ◌*◌, ◌≡◌, not, List, eqb, ltb, length, replicate, if◌then◌else◌, Ok, Err, None}
use Rattle.ids.specs.Limits.{max_servers}
use Rattle.ids.specs.Requests.{by_owner}
use Rattle.ids.specs.declared.ClientId.{ClientId}
use Rattle.ids.specs.declared.ServerId.{ServerId}
use Rattle.ids.specs.declared.Timestamp.{Timestamp}
use Rattle.ids.specs.declared.Refusal.TheVariants.{ParameterOutOfRange, NotForServer, QueueFull, NoOwner, NumberOutOfRange, InvalidRecord}
use Rattle.rows.specs.Rows.{row_of}
use Rattle.wire.specs.Format as format
use Rattle.wire.specs.Step.{Step, Outcome, refused, stepped, answer_of, sent_into}
use Rattle.wire.specs.Says.{answer_says, outcome_says, new_says}
use Rattle.wire.specs.declared.Message.{Message}
use Rattle.wire.specs.declared.Message.TheVariants.{Request, Yield, Release, Inquiry, Response, Check}
use Rattle.server.specs.declared.Head.{Head}
use Rattle.server.specs.declared.Server.{Server}
use Rattle.server.specs.declared.Stepped.{Stepped}
use Rattle.server_votes.specs.declared.Tag.{Tag}
use Rattle.server_votes.specs.declared.Tag.TheVariants.{Request as REQUEST, Yield as YIELD, Release as RELEASE, Inquiry as INQUIRY}
use Rattle.server_votes.specs.Figure1.{State, receive, suspect, check}
use Rattle.server.specs.Record.{row_words, valid_up_to, valid, valid_sizes, view}

-- server j of n with no owner and nobody waiting: its head, its record with a row of so many words, and that by value
abbrev pub empty_head : ℕ → ServerId → Head
empty_head n j = record { n = n; id = j; votes = record { owner = None; len = 0 } }

abbrev pub empty_server_in : ℕ → ℕ → ServerId → Server
empty_server_in words n j = record { head = empty_head n j; row = replicate words 0 }

abbrev pub empty_server : ℕ → ServerId → Server
empty_server = empty_server_in row_words

-- what a refused `new` hands back: a record that no call accepts
abbrev pub blank : Server
blank = empty_server 0 (record { 0 = 0 })

-- a new server, number j of n
unfoldable pub new_result : ℕ → ServerId → Stepped
new_result n j =
    if valid_sizes n j then record { server = empty_server n j; answer = Ok (record { messages = 0; bytes = 0 }) }
    else record { server = blank; answer = Err ParameterOutOfRange }

-- answer and record, and the answer in document 01's numbers
abbrev pub NewGives : ℕ → ServerId → Stepped → Type 0
NewGives n j r = (r ≡ new_result n j) × (answer_says r.answer ≡ new_says (valid_sizes n j))

-- 14: the row has no place for the request, the older pair gone; only a REQUEST adds to the queue
abbrev pub held : ℕ → Step State → Outcome State
held words s = if ltb words (2 * length s.state.queue) then refused QueueFull else stepped s

-- a message of this tag to server j, with k's timestamp t
abbrev pub taken : Server → Tag → ClientId → ServerId → Timestamp → Outcome State
taken s tag k j t =
    if eqb j.0 s.head.id.0 then held (length s.row) (receive s.head.id tag (record { client = k; timestamp = t }) (view s)) else refused NotForServer

abbrev pub received : Server → Message → Outcome State
received s (Request k j t) = taken s REQUEST k j t
received s (Yield k j t) = taken s YIELD k j t
received s (Release k j t) = taken s RELEASE k j t
received s (Inquiry k j t) = taken s INQUIRY k j t
received s (Response k j o) = refused NotForServer
received s (Check k j t) = refused NotForServer

unfoldable pub message_outcome_up_to : ℕ → Server → Message → Outcome State
message_outcome_up_to limit s m =
    if not (valid_up_to limit s) then refused InvalidRecord
    else if not (format.valid_up_to limit m) then refused NumberOutOfRange
    else received s m

abbrev pub message_outcome : Server → Message → Outcome State
message_outcome = message_outcome_up_to max_servers

-- document 01's missing owner
unfoldable pub suspect_outcome : Server → Outcome State
suspect_outcome s =
    if not (valid s) then refused InvalidRecord
    else by_owner s.head.votes.owner (refused NoOwner) (λ o. stepped (suspect s.head.id (view s)))

unfoldable pub check_outcome : Server → Outcome State
check_outcome s = if not (valid s) then refused InvalidRecord else stepped (check s.head.id (view s))

-- head, row and record afterwards: unchanged by a refusal; else the step's owner and queue, the queue in as many words as before
abbrev pub head_after : Head → Outcome State → Head
head_after h (refused e) = h
head_after h (stepped p) = record { n = h.n; id = h.id; votes = record { owner = p.state.owner; len = length p.state.queue } }

abbrev pub row_after : List ℕ → Outcome State → List ℕ
row_after row (refused e) = row
row_after row (stepped p) = row_of (length row) p.state.queue

abbrev pub server_after : Server → Outcome State → Server
server_after s o = record { head = head_after s.head o; row = row_after s.row o }

-- answer and record of a call, from its outcome
abbrev pub result : Server → Outcome State → Stepped
result s o = record { server = server_after s o; answer = answer_of o }

-- what a call with this outcome gives and leaves in the buffer: answer and record; the buffer; and the answer in document 01's numbers
abbrev pub Gives : Server → Outcome State → List ℕ → Stepped → List ℕ → Type 0
Gives s o out r out' = (r ≡ result s o) × (out' ≡ sent_into out o) × (answer_says r.answer ≡ outcome_says o)
