-- The messages in transit of a system, a line each, in the order of their numbers. Each is the list of the texts that stand one after another.
-- Document 01 says kept for in transit, waiting for pending, taken for delivered; the lines say so too, and the parties as the slips do:
--   mail 1 REQUEST kiosk 1 keeper 1 ticket 1 taken        the number, the kind, the sender, the receiver, the ticket
--   mail 4 RESPONSE keeper 1 kiosk 2 owner 1,1 waiting    an answer names the owner, a kiosk and its ticket
--   mail 5 RESPONSE keeper 2 kiosk 2 free waiting         or none
use Rattle.ids.specs.declared.Request.{Request as Pair}
use Rattle.std.specs.Prelude.{ℕ, Bool, List, [], ◌∷◌, ◌++◌, if◌then◌else◌, Option}
use Rattle.ids.specs.Requests.{by_owner}
use Rattle.ids.specs.declared.ClientId.{ClientId}
use Rattle.ids.specs.declared.ServerId.{ServerId}
use Rattle.ids.specs.declared.Timestamp.{Timestamp}
use Rattle.script_numbers.specs.Decimals.{decimal}
use Rattle.script_lines.specs.Words.{text}
use Rattle.text_sheet.specs.Sheet.{ends}
use Rattle.system.specs.Places.{System}
use Rattle.system.specs.Transit.{InTransit}
use Rattle.wire.specs.declared.Message.{Message}
use Rattle.wire.specs.declared.Message.TheVariants.{Request, Yield, Release, Inquiry, Response, Check}
use Rattle.text_knowledge.specs.Knowledge.{request_text, slips_text}

abbrev pub timestamp_text : Timestamp → List (List ℕ)
timestamp_text t = text " ticket " ∷ decimal t.0 ∷ []

-- a message's kind, then from client k to server j; and from server j to client k
abbrev pub to_server_text : List ℕ → ClientId → ServerId → List (List ℕ)
to_server_text kind k j = kind ∷ text " kiosk " ∷ decimal k.0 ∷ text " keeper " ∷ decimal j.0 ∷ []

abbrev pub to_client_text : List ℕ → ClientId → ServerId → List (List ℕ)
to_client_text kind k j = kind ∷ text " keeper " ∷ decimal j.0 ∷ text " kiosk " ∷ decimal k.0 ∷ []

-- what a RESPONSE says: the server's slip when it was sent, without those who wait
unfoldable pub owner_text : Option Pair → List (List ℕ)
owner_text o = by_owner o (text " free" ∷ []) (λ r. text " owner " ∷ request_text r)

unfoldable pub message_text : Message → List (List ℕ)
message_text (Request k j t) = to_server_text (text " REQUEST") k j ++ timestamp_text t
message_text (Yield k j t) = to_server_text (text " YIELD") k j ++ timestamp_text t
message_text (Release k j t) = to_server_text (text " RELEASE") k j ++ timestamp_text t
message_text (Inquiry k j t) = to_server_text (text " INQUIRY") k j ++ timestamp_text t
message_text (Response k j o) = to_client_text (text " RESPONSE") k j ++ owner_text o
message_text (Check k j t) = to_client_text (text " CHECK") k j ++ timestamp_text t

-- whether a message was delivered
abbrev pub standing_text : Bool → List ℕ
standing_text delivered = if delivered then text " taken" else text " waiting"

unfoldable pub in_transit_text : InTransit → List (List ℕ)
in_transit_text x = text "mail " ∷ decimal x.number ∷ (message_text x.message ++ (standing_text x.delivered ∷ ends))

unfoldable pub mail_text : List InTransit → List (List ℕ)
mail_text [] = []
mail_text (x ∷ l) = in_transit_text x ++ mail_text l

-- all slips of a system with n servers and so many clients, and its messages in transit
abbrev pub slips_mail_text : System → ℕ → ℕ → List (List ℕ)
slips_mail_text u n clients = slips_text u n clients ++ mail_text u.transit
