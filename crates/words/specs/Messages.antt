-- How a message crosses to C: five 32-bit words, kind, client, server, timestamp and owner, the last 0 where the kind has none.
use Rattle.std.specs.Prelude.{ℕ, Bool, ◌&&◌, List, eqb, leb, length, get_or, if◌then◌else◌, Some, None, Option}
use Rattle.ids.specs.Limits.{max_short}
use Rattle.ids.specs.Refusals.{code, Says, accepts, refuses}
use Rattle.ids.specs.declared.Refusal.TheVariants.{NumberOutOfRange}
use Rattle.wire.specs.Format.{words, valid_fields, message_of}
use Rattle.wire.specs.declared.Fields.{Fields}
use Rattle.wire.specs.declared.Message.{Message}
use Rattle.wire.specs.declared.Message.TheVariants.{Request}

-- no word is too large for its field of the format
unfoldable pub fits : ℕ → ℕ → ℕ → ℕ → Bool
fits kind client server owner =
    leb kind max_short && (leb client max_short && (leb server max_short && leb owner max_short))

-- the numbers in five words
abbrev pub fields_from : List ℕ → Fields
fields_from ws = record { kind = get_or ws 0 0; client = get_or ws 1 0; server = get_or ws 2 0; timestamp = get_or ws 3 0; owner = get_or ws 4 0 }

-- they cross if there are five, each small enough
unfoldable pub crossing : List ℕ → Option Fields
crossing ws =
    if eqb (length ws) 5 && fits (get_or ws 0 0) (get_or ws 1 0) (get_or ws 2 0) (get_or ws 4 0) then Some (fields_from ws) else None

-- the answer in document 01's numbers: the five, or 5
abbrev pub crossed_says : Option Fields → Says ℕ
crossed_says None = refuses (code NumberOutOfRange)
crossed_says (Some f) = accepts (words f)

unfoldable pub five_says : List ℕ → Says ℕ
five_says ws =
    if eqb (length ws) 5 && fits (get_or ws 0 0) (get_or ws 1 0) (get_or ws 2 0) (get_or ws 4 0) then accepts (words (fields_from ws)) else refuses 5

-- numbers in range are a message: its kind is one of the six, and only a RESPONSE has an owner
abbrev pub as_message : Option Fields → Option Message
as_message None = None
as_message (Some f) = if valid_fields f then Some (message_of f) else None

-- the message that these words are, if they are one
abbrev pub message_in : List ℕ → Option Message
message_in ws = as_message (crossing ws)

-- what stands for words that are no message: a message that every call refuses 5
abbrev pub no_message : Message
no_message = Request (record { 0 = 0 }) (record { 0 = 0 }) (record { 0 = 0 })

abbrev pub message_or : Option Message → Message
message_or None = no_message
message_or (Some m) = m
