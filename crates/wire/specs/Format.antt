-- The format of document 01, 'Messages': what bytes a message is. `widths` and `words` are all of it.
use Rattle.ids.specs.declared.Request.{Request as Pair}
use Rattle.std.specs.Prelude.{ℕ, ◌+◌, Bool, ◌&&◌, List, [], ◌∷◌, ◌++◌, eqb, get_or, if◌then◌else◌, Some, None, Option}
use Rattle.ids.specs.Limits.{max_servers, valid_parties_up_to, valid_stamped_up_to, valid_timestamp, valid_owner, within}
use Rattle.ids.specs.declared.ClientId.{ClientId}
use Rattle.ids.specs.declared.ServerId.{ServerId}
use Rattle.ids.specs.declared.Timestamp.{Timestamp}
use Rattle.wire.specs.Bytes.{encode, decode, total}
use Rattle.wire.specs.declared.Message.{Message}
use Rattle.wire.specs.declared.Message.TheVariants.{Request, Yield, Release, Inquiry, Response, Check}
use Rattle.wire.specs.declared.Fields.{Fields}

-- the kind of RESPONSE, which alone names an owner
abbrev pub response : ℕ
response = 5

abbrev pub known : ℕ → Bool
known kind = within kind 6

-- the widths of a message's numbers in bytes: length and kind, then client, server, timestamp, and in a RESPONSE the owner's client
abbrev pub header : List ℕ
header = 2 ∷ 2 ∷ []

abbrev pub widths : ℕ → List ℕ
widths kind = header ++ 2 ∷ 2 ∷ 4 ∷ (if eqb kind response then 2 ∷ [] else [])

-- the bytes of a message without an owner, and of a RESPONSE
abbrev pub message_bytes : ℕ
message_bytes = 12

abbrev pub response_bytes : ℕ
response_bytes = message_bytes + 2

-- a message's length in bytes, which is also its first number
unfoldable pub length_of : ℕ → ℕ
length_of kind = total (widths kind)

abbrev pub plain : ℕ → ClientId → ServerId → Timestamp → Fields
plain kind k j t = record { kind = kind; client = k.0; server = j.0; timestamp = t.0; owner = 0 }

-- the owner's numbers: 0 and 0 for nobody
abbrev pub owner_client : Option Pair → ℕ
owner_client None = 0
owner_client (Some q) = q.client.0

abbrev pub owner_timestamp : Option Pair → ℕ
owner_timestamp None = 0
owner_timestamp (Some q) = q.timestamp.0

abbrev pub answer : ClientId → ServerId → Option Pair → Fields
answer k j o = record { kind = response; client = k.0; server = j.0; timestamp = owner_timestamp o; owner = owner_client o }

-- a message's numbers
unfoldable pub fields_of : Message → Fields
fields_of (Request k j t) = plain 1 k j t
fields_of (Yield k j t) = plain 2 k j t
fields_of (Release k j t) = plain 3 k j t
fields_of (Inquiry k j t) = plain 4 k j t
fields_of (Response k j o) = answer k j o
fields_of (Check k j t) = plain 6 k j t

-- a message's head, which every kind has: the client and the server that it names
abbrev pub client_named : Message → ClientId
client_named m = record { 0 = (fields_of m).client }

abbrev pub server_named : Message → ServerId
server_named m = record { 0 = (fields_of m).server }

-- the numbers in their order
abbrev pub words : Fields → List ℕ
words f = f.kind ∷ f.client ∷ f.server ∷ f.timestamp ∷ f.owner ∷ []

-- the bytes of these numbers, their length first
unfoldable pub bytes_of_fields : Fields → List ℕ
bytes_of_fields f = encode (widths f.kind) (length_of f.kind ∷ words f)

-- THE FORMAT: the bytes that a message is
unfoldable pub bytes_of : Message → List ℕ
bytes_of m = bytes_of_fields (fields_of m)

-- how many they are
unfoldable pub size_of : Message → ℕ
size_of m = length_of (fields_of m).kind

-- the range of the owner that a message names, apart from that of an owner in a record
abbrev pub valid_named : Option Pair → Bool
valid_named = valid_owner

unfoldable pub valid_response_up_to : ℕ → ClientId → ServerId → Option Pair → Bool
valid_response_up_to limit k j o = valid_parties_up_to limit k j && valid_named o

-- every number of the message is in its range, the server's up to a limit
unfoldable pub valid_up_to : ℕ → Message → Bool
valid_up_to limit (Request k j t) = valid_stamped_up_to limit k j t
valid_up_to limit (Yield k j t) = valid_stamped_up_to limit k j t
valid_up_to limit (Release k j t) = valid_stamped_up_to limit k j t
valid_up_to limit (Inquiry k j t) = valid_stamped_up_to limit k j t
valid_up_to limit (Response k j o) = valid_response_up_to limit k j o
valid_up_to limit (Check k j t) = valid_stamped_up_to limit k j t

-- the server's up to the largest n, whatever n is
abbrev pub valid : Message → Bool
valid = valid_up_to max_servers

-- a server's owner from its numbers
abbrev pub owner_of : ClientId → Timestamp → Option Pair
owner_of k t = if eqb k.0 0 && eqb t.0 0 then None else Some (record { client = k; timestamp = t })

-- the message with these numbers, where their kind is known
unfoldable pub message_of : Fields → Message
message_of f =
    let k : ClientId = record { 0 = f.client } in
    let j : ServerId = record { 0 = f.server } in
    let t : Timestamp = record { 0 = f.timestamp } in
    if eqb f.kind 1 then Request k j t
    else if eqb f.kind 2 then Yield k j t
    else if eqb f.kind 3 then Release k j t
    else if eqb f.kind 4 then Inquiry k j t
    else if eqb f.kind response then Response k j (owner_of (record { 0 = f.owner }) t)
    else Check k j t

-- the length and the kind that the bytes s begin with
unfoldable pub length_in : List ℕ → ℕ
length_in s = get_or (decode header s) 0 0

unfoldable pub kind_in : List ℕ → ℕ
kind_in s = get_or (decode header s) 1 0

-- the number at place i of those that s begins with, at the widths of their kind; 0 where the kind has none
unfoldable pub field_in : List ℕ → ℕ → ℕ
field_in s i = get_or (decode (widths (kind_in s)) s) i 0

-- all of them
unfoldable pub fields_in : List ℕ → Fields
fields_in s =
    record {
      kind = kind_in s;
      client = field_in s 2;
      server = field_in s 3;
      timestamp = field_in s 4;
      owner = field_in s 5;
    }

unfoldable pub valid_rest : ℕ → ℕ → ℕ → Bool
valid_rest kind timestamp owner =
    if eqb kind response then valid_named (owner_of (record { 0 = owner }) (record { 0 = timestamp })) else valid_timestamp (record { 0 = timestamp }) && eqb owner 0

unfoldable pub valid_numbers_up_to : ℕ → Fields → Bool
valid_numbers_up_to limit f =
    valid_parties_up_to limit (record { 0 = f.client }) (record { 0 = f.server }) && valid_rest f.kind f.timestamp f.owner

-- the same test of numbers that may be no message at all: a known kind, an owner only in a RESPONSE, all in range
unfoldable pub valid_fields_up_to : ℕ → Fields → Bool
valid_fields_up_to limit f = known f.kind && valid_numbers_up_to limit f

abbrev pub valid_fields : Fields → Bool
valid_fields = valid_fields_up_to max_servers

-- several messages, one after another
unfoldable pub bytes_of_all : List Message → List ℕ
bytes_of_all [] = []
bytes_of_all (m ∷ ms) = bytes_of m ++ bytes_of_all ms

unfoldable pub size_of_all : List Message → ℕ
size_of_all [] = 0
size_of_all (m ∷ ms) = size_of m + size_of_all ms
