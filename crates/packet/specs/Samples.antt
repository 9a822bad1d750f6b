-- Packets worked out by hand from document 02, L1: the empty one, document 01's two examples in one, and refusals that meet.
use Rattle.ids.specs.declared.Refusal.{Refusal}
use Rattle.std.specs.Prelude.{ℕ, ◌≡◌, List, [], ◌∷◌, ◌++◌, Ok, Err, Result, Some, None, Option}
use Rattle.ids.specs.declared.Refusal.TheVariants.{KindUnknown, NumberOutOfRange, RoomShort, PacketMalformed}
use Rattle.wire.specs.declared.Message.{Message}
use Rattle.wire.specs.declared.Message.TheVariants.{Request, Response}
use Rattle.packet.specs.Reading.{next_of}
use Rattle.packet.specs.Packing.{packed, pack_of}

-- client 5's REQUEST to server 1 with timestamp 3, and server 1's RESPONSE to it, which names client 2's request 3
abbrev pub request : List ℕ
request = 12 ∷ 0 ∷ 1 ∷ 0 ∷ 5 ∷ 0 ∷ 1 ∷ 0 ∷ 3 ∷ 0 ∷ 0 ∷ 0 ∷ []

abbrev pub response : List ℕ
response = 14 ∷ 0 ∷ 5 ∷ 0 ∷ 5 ∷ 0 ∷ 1 ∷ 0 ∷ 3 ∷ 0 ∷ 0 ∷ 0 ∷ 2 ∷ 0 ∷ []

abbrev pub requested : Message
requested = Request (record { 0 = 5 }) (record { 0 = 1 }) (record { 0 = 3 })

abbrev pub responded : Message
responded = Response (record { 0 = 5 }) (record { 0 = 1 }) (Some (record { client = record { 0 = 2 }; timestamp = record { 0 = 3 } }))

-- the request to server 0, which is 5; a message of no kind, which is 2
abbrev pub nowhere : List ℕ
nowhere = 12 ∷ 0 ∷ 1 ∷ 0 ∷ 5 ∷ 0 ∷ 0 ∷ 0 ∷ 3 ∷ 0 ∷ 0 ∷ 0 ∷ []

abbrev pub kindless : List ℕ
kindless = 4 ∷ 0 ∷ 0 ∷ 0 ∷ []

pub record Sample : Type 0 where
  pub packet : List ℕ
  pub at : ℕ
  pub gives : Result (Option (Message × ℕ)) Refusal

abbrev pub sample : List ℕ → ℕ → Result (Option (Message × ℕ)) Refusal → Sample
sample s at n = record { packet = s; at = at; gives = n }

abbrev pub two : List ℕ
two = 28 ∷ 0 ∷ request ++ response

unfoldable pub samples : List Sample
samples =
    -- a packet of length 2 is accepted and empty; in its total no message starts
    sample (2 ∷ 0 ∷ []) 2 (Ok None) ∷
    sample (2 ∷ 0 ∷ []) 0 (Err PacketMalformed) ∷
    sample (2 ∷ 0 ∷ []) 1 (Err PacketMalformed) ∷
    sample (2 ∷ 0 ∷ []) 3 (Err PacketMalformed) ∷
    -- under two bytes, a total under 2, a total above the bytes lent, a byte left
    sample (2 ∷ []) 2 (Err PacketMalformed) ∷
    sample (1 ∷ 0 ∷ []) 2 (Err PacketMalformed) ∷
    sample (3 ∷ 0 ∷ []) 2 (Err PacketMalformed) ∷
    sample (3 ∷ 0 ∷ 12 ∷ []) 2 (Err PacketMalformed) ∷
    -- two messages, at their places, between them and at the end; with a byte behind the packet
    sample two 2 (Ok (Some (requested, 14))) ∷
    sample two 14 (Ok (Some (responded, 28))) ∷
    sample two 28 (Ok None) ∷
    sample two 15 (Err PacketMalformed) ∷
    sample (two ++ 255 ∷ []) 28 (Ok None) ∷
    -- one bad message keeps the other back; the first of two tells; a walk that breaks behind it comes first
    sample (28 ∷ 0 ∷ nowhere ++ response) 14 (Err NumberOutOfRange) ∷
    sample (18 ∷ 0 ∷ nowhere ++ kindless) 2 (Err NumberOutOfRange) ∷
    sample (18 ∷ 0 ∷ kindless ++ nowhere) 2 (Err KindUnknown) ∷
    sample (15 ∷ 0 ∷ nowhere ++ 12 ∷ []) 2 (Err PacketMalformed) ∷
    []

abbrev pub All : List Sample → Type 0
All [] = Unit {0}
All (s ∷ l) = (next_of s.packet s.at ≡ s.gives) × All l

-- packing: no bytes give 02 00; a request has 14 bytes with its total; 6 comes last
abbrev pub Packings : Type 0
Packings =
    (packed [] ≡ 2 ∷ 0 ∷ [])
    × (packed request ≡ 14 ∷ 0 ∷ request)
    × (pack_of [] 2 ≡ Ok 2)
    × (pack_of request 14 ≡ Ok 14)
    × (pack_of request 13 ≡ Err RoomShort)
    × (pack_of nowhere 13 ≡ Err NumberOutOfRange)
    × (pack_of (12 ∷ []) 0 ≡ Err PacketMalformed)
