-- Definitions that only the contracts of private functions cite: no promise rests on them.
use Rattle.wire.specs.declared.Sent.{Sent}
use Rattle.ids.specs.declared.Refusal.{Refusal}
use Rattle.std.specs.Prelude.{ℕ, Bool, true, false, ◌&&◌, List, replicate, if◌then◌else◌, Ok, Err, Result, None, Option}
use Rattle.ids.specs.Limits.{valid_owner}
use Rattle.ids.specs.Lists.{every}
use Rattle.ids.specs.declared.ClientId.{ClientId}
use Rattle.ids.specs.declared.ServerId.{ServerId}
use Rattle.ids.specs.declared.Timestamp.{Timestamp}
use Rattle.ids.specs.declared.Request.{Request}
use Rattle.ids.specs.declared.Refusal.TheVariants.{ParameterOutOfRange}
use Rattle.wire.specs.Step.{Step}
use Rattle.wire.specs.declared.Message.{Message}
use Rattle.wire.specs.declared.Message.TheVariants.{Request as REQUEST, Release as RELEASE}
use Rattle.client_responses.specs.declared.Section.{Section}
use Rattle.client_responses.specs.declared.Section.TheVariants.{Trying}
use Rattle.client_responses.specs.Figure1.{State, later, enough, round}
use Rattle.client_responses.specs.Row.{responses_in, own_is_current}
use Rattle.client.specs.declared.Head.{Head}
use Rattle.client.specs.declared.Stepped.{Stepped}
use Rattle.client.specs.declared.Turned.{Turned}
use Rattle.client.specs.Record.{fits_section, no_more}
use Rattle.client.specs.Calls.{blank}

-- the client with its timestamp
abbrev pub request : Head → Request
request h = record { client = h.id; timestamp = h.timestamp }

-- the head in another section, and with another timestamp
abbrev pub head_with : Head → Section → Timestamp → Head
head_with h s t = record { n = h.n; m = h.m; id = h.id; section = s; timestamp = t; seen = h.seen }

-- the head told of timestamp t
abbrev pub saw_in : Timestamp → Head → Head
saw_in t h =
    record { n = h.n; m = h.m; id = h.id; section = h.section; timestamp = h.timestamp; seen = later h.seen t }

-- the tests of a valid record's places
unfoldable pub valid_places : Head → List ℕ → Bool
valid_places h row =
    let l : List (Option Request) = responses_in row h.n in
    (every valid_owner l && every (own_is_current (request h)) l)
    && (fits_section (enough h.m) h.section (request h) l && no_more h.section h.m l)

-- the state of n servers without a response
abbrev pub without : ℕ → Section → Timestamp → Timestamp → State
without n s t seen = record { section = s; timestamp = t; seen = seen; responses = replicate n None }

abbrev pub refused_new : Stepped
refused_new = record { client = blank; answer = Err ParameterOutOfRange }

-- the messages that go to all servers
abbrev pub requests : ClientId → Timestamp → ServerId → Message
requests k t j = REQUEST k j t

abbrev pub releases : ClientId → Timestamp → ServerId → Message
releases k t j = RELEASE k j t

-- lines 14 to 18: the replies are sent, and the responses forgotten
abbrev pub yields : Head → List (Option Request) → Step State
yields h l = record { state = without h.n Trying h.timestamp h.seen; sent = round (request h) 1 l }

abbrev pub is_refused : Result Sent Refusal → Bool
is_refused (Ok s) = false
is_refused (Err e) = true

-- the answer of a step that was given head h with more seen: a refused one leaves h
abbrev pub settled : Head → Turned → Turned
settled h r = if is_refused r.answer then record { head = h; answer = r.answer } else r
