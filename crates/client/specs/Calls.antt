-- The client's calls: the row 'kiosk' of document 01's table, each number in its order, and what is left in head, row and buffer.
use Rattle.std.specs.Prelude.{ℕ, ◌≡◌, Bool, ◌&&◌, not, List, map, eqb, leb, length, replicate, if◌then◌else◌, Ok, Err}
use Rattle.ids.specs.Limits.{max_servers, valid_client}
use Rattle.ids.specs.declared.ClientId.{ClientId}
use Rattle.ids.specs.declared.ServerId.{ServerId}
use Rattle.ids.specs.declared.Refusal.TheVariants.{ParameterOutOfRange, NotForClient, NumberOutOfRange, InvalidRecord}
use Rattle.wire.specs.Format as format
use Rattle.wire.specs.Step.{Outcome, refused, stepped, answer_of, sent_into}
use Rattle.wire.specs.Says.{answer_says, outcome_says, new_says}
use Rattle.wire.specs.declared.Message.{Message}
use Rattle.wire.specs.declared.Message.TheVariants.{Request, Yield, Release, Inquiry, Response, Check}
use Rattle.rows.specs.Rows.{row_of}
use Rattle.client_responses.specs.Figure1.{State, fresh, enough, try_checked, exit_checked, tries, exits, responds, checked}
use Rattle.client_responses.specs.Row.{place}
use Rattle.client.specs.declared.Client.{Client}
use Rattle.client.specs.declared.Head.{Head}
use Rattle.client.specs.declared.Stepped.{Stepped}
use Rattle.client.specs.declared.Turned.{Turned}
use Rattle.client.specs.Record.{row_words, client_of, head_in, view, store, valid_up_to, valid, valid_sizes}

-- what a refused `new` hands back: a record that no call accepts
abbrev pub blank : Client
blank = client_of (head_in 0 0 (record { 0 = 0 }) (fresh 0)) (replicate row_words 0)

-- a new client with n servers and threshold m
unfoldable pub new_result : ℕ → ℕ → ClientId → Stepped
new_result n m k =
    if valid_sizes n m && valid_client k then record { client = store n m k (fresh n); answer = Ok (record { messages = 0; bytes = 0 }) }
    else record { client = blank; answer = Err ParameterOutOfRange }

-- answer and record, and the answer in document 01's numbers
abbrev pub NewGives : ℕ → ℕ → ClientId → Stepped → Type 0
NewGives n m k r = (r ≡ new_result n m k) × (answer_says r.answer ≡ new_says (valid_sizes n m && valid_client k))

-- document 01's try
unfoldable pub begin_outcome : Client → Outcome State
begin_outcome c =
    if not (valid c) then refused InvalidRecord
    else try_checked (view c) (stepped (tries c.head.n c.head.id (view c)))

unfoldable pub exit_outcome : Client → Outcome State
exit_outcome c =
    if not (valid c) then refused InvalidRecord
    else exit_checked (view c) (stepped (exits c.head.n c.head.id (view c)))

-- the message is for this client, from one of its n servers
abbrev pub for_client : Head → ClientId → ServerId → Bool
for_client h k j = eqb k.0 h.id.0 && leb j.0 h.n

abbrev pub received : Client → Message → Outcome State
received c (Request k j t) = refused NotForClient
received c (Yield k j t) = refused NotForClient
received c (Release k j t) = refused NotForClient
received c (Inquiry k j t) = refused NotForClient
received c (Response k j o) =
    if for_client c.head k j then stepped (responds (enough c.head.m) c.head.n k j o (view c))
    else refused NotForClient
received c (Check k j t) =
    if for_client c.head k j then stepped (checked k j t (view c)) else refused NotForClient

unfoldable pub message_outcome_up_to : ℕ → Client → Message → Outcome State
message_outcome_up_to limit c m =
    if not (valid_up_to limit c) then refused InvalidRecord
    else if not (format.valid_up_to limit m) then refused NumberOutOfRange
    else received c m

abbrev pub message_outcome : Client → Message → Outcome State
message_outcome = message_outcome_up_to max_servers

-- head and row afterwards, and the record of both: unchanged by a refusal
abbrev pub head_after : Head → Outcome State → Head
head_after h (refused e) = h
head_after h (stepped p) = head_in h.n h.m h.id p.state

abbrev pub row_after : List ℕ → Outcome State → List ℕ
row_after row (refused e) = row
row_after row (stepped p) = row_of (length row) (map place p.state.responses)

abbrev pub client_after : Client → Outcome State → Client
client_after c o = client_of (head_after c.head o) (row_after c.row o)

-- answer and head of a call on a lent row, from its outcome; and answer and record of a call by value
abbrev pub turned : Head → Outcome State → Turned
turned h o = record { head = head_after h o; answer = answer_of o }

abbrev pub result : Client → Outcome State → Stepped
result c o = record { client = client_after c o; answer = answer_of o }

-- what a call by value with this outcome gives and leaves in the buffer: answer and record; the buffer; and the answer in document 01's numbers
abbrev pub Gives : Client → Outcome State → List ℕ → Stepped → List ℕ → Type 0
Gives c o out r out' = (r ≡ result c o) × (out' ≡ sent_into out o) × (answer_says r.answer ≡ outcome_says o)
