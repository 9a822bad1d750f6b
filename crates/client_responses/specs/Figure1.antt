-- The client: Figure 1 of the report, lines 1 to 25, on a section, a timestamp, the largest timestamp seen and the responses of n servers.
-- Document 01 says kiosk for client, ticket for timestamp, answers for responses, holding the wall for being in the critical section.
use Rattle.std.specs.Prelude.{ℕ, zero, suc, ◌+◌, ◌-◌, max, Bool, true, false, ◌&&◌, ◌||◌, not, List, [], ◌∷◌, ◌++◌, map, eqb, leb, replicate, get_or, set, if◌then◌else◌, Some, None, Option}
use Rattle.ids.specs.Order.{before}
use Rattle.ids.specs.Requests.{is_request}
use Rattle.ids.specs.declared.ClientId.{ClientId}
use Rattle.ids.specs.declared.ServerId.{ServerId}
use Rattle.ids.specs.declared.Timestamp.{Timestamp}
use Rattle.ids.specs.declared.Request.{Request}
use Rattle.ids.specs.declared.Refusal.TheVariants.{WrongSection, TimestampsSpent}
use Rattle.wire.specs.Format.{owner_timestamp}
use Rattle.wire.specs.Step.{Step, stay, tell, Outcome, refused}
use Rattle.wire.specs.declared.Message.{Message}
use Rattle.wire.specs.declared.Message.TheVariants.{Request as REQUEST, Yield as YIELD, Release as RELEASE, Inquiry as INQUIRY}
use Rattle.client_responses.specs.declared.Section.{Section}
use Rattle.client_responses.specs.declared.Section.TheVariants.{Remainder, Trying, Critical}

pub record State : Type 0 where
  pub section : Section
  -- the last timestamp taken, 0 before the first
  pub timestamp : Timestamp
  -- the largest timestamp that a RESPONSE or a CHECK has told it of, 0 before the first
  pub seen : Timestamp
  -- resp[1..n]: the owner that each server named, nobody for (nil, nil)
  pub responses : List (Option Request)

abbrev pub fresh : ℕ → State
fresh n =
    record { section = Remainder; timestamp = record { 0 = 0 }; seen = record { 0 = 0 }; responses = replicate n None }

-- the request that client k stands for
abbrev pub request : ClientId → State → Request
request k c = record { client = k; timestamp = c.timestamp }

-- the larger of two timestamps
abbrev pub later : Timestamp → Timestamp → Timestamp
later a b = record { 0 = max a.0 b.0 }

-- GetTimeStamp. The report asks for numbers that increase, and allows logical clocks: one more than the last one and all that the client was told
-- of. Document 02, L4, asks for that at a try; an exit takes the last one plus one.
unfoldable pub next : Timestamp → Timestamp
next t = record { 0 = t.0 + 1 }

abbrev pub latest : State → Timestamp
latest c = later c.timestamp c.seen

abbrev pub taken : State → Timestamp
taken c = next (latest c)

-- the client is told of timestamp t
abbrev pub saw : Timestamp → State → State
saw t c =
    record { section = c.section; timestamp = c.timestamp; seen = later c.seen t; responses = c.responses }

-- the last timestamp, taken or seen, with which a client may still try: two are left, for the try and for its exit
abbrev pub last_try : ℕ
last_try = 4294967293

abbrev pub may_try : State → Bool
may_try c = leb (latest c).0 last_try

abbrev pub is_remainder : Section → Bool
is_remainder Remainder = true
is_remainder Trying = false
is_remainder Critical = false

abbrev pub is_trying : Section → Bool
is_trying Remainder = false
is_trying Trying = true
is_trying Critical = false

abbrev pub is_critical : Section → Bool
is_critical Remainder = false
is_critical Trying = false
is_critical Critical = true

-- refusals 10 and 11 of a try, and 10 of an exit: of the call and of the event
abbrev pub try_checked : {A : Type 0} → State → Outcome A → Outcome A
try_checked c o =
    if is_remainder c.section then (if may_try c then o else refused TimestampsSpent)
    else refused WrongSection

abbrev pub exit_checked : {A : Type 0} → State → Outcome A → Outcome A
exit_checked c o = if is_critical c.section then o else refused WrongSection

abbrev pub filled : Option Request → Bool
filled None = false
filled (Some o) = true

abbrev pub count : List Bool → ℕ
count [] = 0
count (b ∷ l) = (if b then 1 else 0) + count l

-- a quorum test says of a flag for each server whether the set of the flagged ones is enough
abbrev pub Quorum : Type 0
Quorum = List Bool → Bool

-- enough responses: at least m of them
unfoldable pub enough : ℕ → Quorum
enough m flags = leb m (count flags)

-- a message to each of the servers 1 to n
unfoldable pub to_all : (ServerId → Message) → ℕ → List Message
to_all f zero = []
to_all f (suc n) = to_all f n ++ (f (record { 0 = suc n }) ∷ [])

-- lines 1 to 5, for client k among n servers
unfoldable pub tries : ℕ → ClientId → State → Step State
tries n k c =
    record {
      state = record { section = Trying; timestamp = taken c; seen = c.seen; responses = replicate n None };
      sent = to_all (λ j. REQUEST k j (taken c)) n;
    }

-- lines 19 to 23
unfoldable pub exits : ℕ → ClientId → State → Step State
exits n k c =
    record {
      state =
          record { section = Remainder; timestamp = next c.timestamp; seen = c.seen; responses = replicate n None };
      sent = to_all (λ j. RELEASE k j c.timestamp) n;
    }

-- the response of server j, and the responses with o in its place
abbrev pub response_of : List (Option Request) → ServerId → Option Request
response_of l j = get_or l (j.0 - 1) None

abbrev pub with_response : List (Option Request) → ServerId → Option Request → List (Option Request)
with_response l j o = set l (j.0 - 1) o

-- line 8's second part: the owner is another client, or nobody, or this very request
abbrev pub current : Request → Option Request → Bool
current r None = true
current r (Some o) = not (eqb o.client.0 r.client.0) || eqb o.timestamp.0 r.timestamp.0

-- lines 8 and 9: the responses of request r after server j named owner o
unfoldable pub heard : Request → List (Option Request) → ServerId → Option Request → List (Option Request)
heard r l j o = if not (is_request r (response_of l j)) && current r o then with_response l j o else l

-- lines 15 to 17: what r's client sends to server j, which named o
unfoldable pub reply : Request → ServerId → Request → Message
reply r j o =
    if eqb o.client.0 r.client.0 then YIELD r.client j r.timestamp
    else if before r o then REQUEST r.client j r.timestamp
    else INQUIRY r.client j r.timestamp

-- line 14 to 17 at one server: nothing to one that named nobody
abbrev pub replies : Request → ServerId → Option Request → List Message
replies r j None = []
replies r j (Some o) = reply r j o ∷ []

-- lines 14 to 17, for the responses of the servers from j on
unfoldable pub round : Request → ℕ → List (Option Request) → List Message
round r j [] = []
round r j (o ∷ l) = replies r (record { 0 = j }) o ++ round r (suc j) l

-- which responses are request r's own
abbrev pub own : Request → List (Option Request) → List Bool
own r l = map (is_request r) l

-- lines 10 to 18, for client k in state c with responses l, by the quorum's verdicts on the filled places and on the own ones: with enough
-- responses of its own it enters, with enough it yields and forgets them, else it waits on
abbrev pub decide : Bool → Bool → ℕ → ClientId → State → List (Option Request) → Step State
decide full mine n k c l =
    let with : Section → List (Option Request) → State =
    λ s a. record { section = s; timestamp = c.timestamp; seen = c.seen; responses = a } in
    if full then
    (if mine then stay (with Critical l)
    else record { state = with Trying (replicate n None); sent = round (request k c) 1 l })
    else stay (with Trying l)

unfoldable pub judge : Quorum → ℕ → ClientId → State → List (Option Request) → Step State
judge wins n k c l = decide (wins (map filled l)) (wins (own (request k c) l)) n k c l

-- lines 7 to 18: upon a RESPONSE of server j that names o; outside the trying section it changes nothing
unfoldable pub upon_response : Quorum → ℕ → ClientId → ServerId → Option Request → State → Step State
upon_response wins n k j o c =
    if is_trying c.section then judge wins n k c (heard (request k c) c.responses j o) else stay c

-- lines 24 and 25: upon a CHECK of server j
unfoldable pub upon_check : ClientId → ServerId → Timestamp → State → Step State
upon_check k j t c = if eqb t.0 c.timestamp.0 then stay c else tell c (RELEASE k j t)

-- the timestamp that a RESPONSE tells of, 0 if it names nobody
abbrev pub told : Option Request → Timestamp
told o = record { 0 = owner_timestamp o }

-- Client k takes a RESPONSE or a CHECK of server j: it has seen the timestamp, in every section and whatever the lines make of it (L4).
abbrev pub responds : Quorum → ℕ → ClientId → ServerId → Option Request → State → Step State
responds wins n k j o c = upon_response wins n k j o (saw (told o) c)

abbrev pub checked : ClientId → ServerId → Timestamp → State → Step State
checked k j t c = upon_check k j t (saw t c)
