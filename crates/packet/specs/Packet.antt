-- A packet (document 02, L1): a total of two bytes, then messages one after another. What a packet carries, all of it or nothing.
use Rattle.std.specs.Prelude.{ℕ, zero, suc, Bool, ◌&&◌, List, [], ◌∷◌, ◌++◌, eqb, leb, length, take, drop, if◌then◌else◌, Ok, Err, Result, Some, None, Option}
use Rattle.ids.specs.Choice.{maybe}
use Rattle.ids.specs.Limits.{max_short}
use Rattle.ids.specs.declared.Refusal.{Refusal}
use Rattle.ids.specs.declared.Refusal.TheVariants.{PacketMalformed, KindUnknown, LengthWrong, NumberOutOfRange}
use Rattle.wire.specs.Bytes.{number}
use Rattle.wire.specs.Format.{length_in}
use Rattle.wire.specs.Calls.{read_of}
use Rattle.wire.specs.declared.Message.{Message}

-- the bytes of the total, and so the place of the first message
abbrev pub total_bytes : ℕ
total_bytes = 2

-- the largest total
abbrev pub max_total : ℕ
max_total = max_short

-- the least length field that the walk goes by
abbrev pub least_length : ℕ
least_length = 4

-- s begins with a part: its length field is at least 4, and s has at least so many bytes (a rest of under 4 bytes never fits)
unfoldable pub fits : List ℕ → Bool
fits s = leb least_length (length_in s) && leb (length_in s) (length s)

abbrev pub with_first : {A : Type 0} → A → Option (List A) → Option (List A)
with_first a None = None
with_first a (Some l) = Some (a ∷ l)

-- THE WALK: the bytes cut into fewer than so many parts, each as long as its length field says; none if they don't end with a part
unfoldable pub cut_into : ℕ → List ℕ → Option (List (List ℕ))
cut_into zero s = None
cut_into (suc count) s =
    if eqb (length s) 0 then Some []
    else if fits s then with_first (take (length_in s) s) (cut_into count (drop (length_in s) s))
    else None

-- a part has a byte at least, so there are no more parts than bytes
abbrev pub cut : List ℕ → Option (List (List ℕ))
cut s = cut_into (suc (length s)) s

-- a message of a packet, with the part of the packet that it was read from
pub record Piece : Type 0 where
  pub message : Message
  pub part : List ℕ

pub data Contents : Type 0 where
  refused : Refusal → Contents
  carries : List Piece → Contents

-- a part in front of others: the first one that reading refuses decides. A part is as long as its length field says, so that reading uses all of it
abbrev pub in_front : List ℕ → Result (Message × ℕ) Refusal → Contents → Contents
in_front p (Err e) rest = refused e
in_front p (Ok (m, used)) (refused e) = refused e
in_front p (Ok (m, used)) (carries ps) = carries (record { message = m; part = p } ∷ ps)

unfoldable pub read_parts : List (List ℕ) → Contents
read_parts [] = carries []
read_parts (p ∷ ps) = in_front p (read_of p) (read_parts ps)

-- messages one after another: 22 by the walk, then the first bad message's own refusal
unfoldable pub contents_of : List ℕ → Contents
contents_of s = maybe (cut s) (refused PacketMalformed) read_parts

-- the total that s begins with
unfoldable pub total_in : List ℕ → ℕ
total_in s = number (take total_bytes s)

-- s has the two bytes of a total, and the total counts them and no more bytes than there are
unfoldable pub framed : List ℕ → Bool
framed s = leb total_bytes (length s) && leb total_bytes (total_in s) && leb (total_in s) (length s)

-- the packet without the bytes behind it, and its messages
abbrev pub up_to_total : List ℕ → List ℕ
up_to_total s = take (total_in s) s

abbrev pub body_of : List ℕ → List ℕ
body_of s = drop total_bytes (up_to_total s)

-- WHAT A PACKET IS READ AS
unfoldable pub packet_of : List ℕ → Contents
packet_of s = if framed s then contents_of (body_of s) else refused PacketMalformed

-- what is carried: nothing where it is refused
abbrev pub pieces : Contents → List Piece
pieces (refused e) = []
pieces (carries ps) = ps

-- their parts one after another, and their messages
unfoldable pub joined : List Piece → List ℕ
joined [] = []
joined (p ∷ ps) = p.part ++ joined ps

unfoldable pub messages : List Piece → List Message
messages [] = []
messages (p ∷ ps) = p.message ∷ messages ps

-- the refusals that a packet can have, for its total, its walk or a place in it and for a bad message: 22, 2, 3, 5
pub data PacketRefusal : Refusal → Type 0 where
  malformed : PacketRefusal PacketMalformed
  kind : PacketRefusal KindUnknown
  wrong : PacketRefusal LengthWrong
  range : PacketRefusal NumberOutOfRange
