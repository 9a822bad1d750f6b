-- An own RESPONSE tells a client that its own request is the owner; and when a request becomes owner.
use Rattle.std.specs.Prelude.{ℕ, ◌+◌, Bool, true, false, ◌&&◌, ◌||◌, not, List, [], ◌∷◌, eqb, if◌then◌else◌, Option}
use Rattle.ids.specs.Requests.{same, is_request}
use Rattle.ids.specs.declared.Request.{Request as Pair}
use Rattle.wire.specs.declared.Message.{Message}
use Rattle.wire.specs.declared.Message.TheVariants.{Request, Yield, Release, Inquiry, Response, Check}
use Rattle.server_votes.specs.declared.Tag.{Tag}
use Rattle.server_votes.specs.declared.Tag.TheVariants.{Request as REQUEST, Yield as YIELD, Release as RELEASE, Inquiry as INQUIRY}

abbrev pub is_own : Pair → Message → Bool
is_own p (Request k j t) = false
is_own p (Yield k j t) = false
is_own p (Release k j t) = false
is_own p (Inquiry k j t) = false
is_own p (Response k j o) = eqb k.0 p.client.0 && is_request p o
is_own p (Check k j t) = false

-- how many of the messages are own RESPONSEs of p
abbrev pub own : Pair → List Message → ℕ
own p [] = 0
own p (m ∷ l) = (if is_own p m then 1 else 0) + own p l

abbrev pub is_yield : Tag → Bool
is_yield REQUEST = false
is_yield YIELD = true
is_yield RELEASE = false
is_yield INQUIRY = false

-- the message is the YIELD by which the owner p gives its vote back
abbrev pub gives_back : Tag → Pair → Pair → Option Pair → Bool
gives_back tag r p owner = is_yield tag && (same r p && is_request p owner)

-- p becomes owner: it is afterwards, and it was not before or gave its vote back
abbrev pub becomes : Pair → Option Pair → Bool → Option Pair → Bool
becomes p before back after = is_request p after && (not (is_request p before) || back)
