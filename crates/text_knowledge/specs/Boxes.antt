-- The boxes of a system, one for each server and each client, a line each: the messages in transit to it, in the order of their numbers. Each is
-- the list of the texts that stand one after another, in the words of the slips and the mail:
--   keeper 1 mail 1 taken 4 waiting    message 1 was taken, message 4 waits
--   kiosk 2 mail                       nothing is in transit to it
use Rattle.std.specs.Prelude.{ℕ, zero, suc, List, [], ◌∷◌, ◌++◌}
use Rattle.script_numbers.specs.Decimals.{decimal}
use Rattle.script_lines.specs.Words.{text}
use Rattle.text_sheet.specs.Sheet.{ends}
use Rattle.system.specs.Index.{Entry, index_of}
use Rattle.system.specs.Numbered.{client_no, server_no}
use Rattle.system.specs.Places.{System}
use Rattle.system.specs.declared.Receiver.{Receiver}
use Rattle.system.specs.declared.Receiver.TheVariants.{Client, Server}
use Rattle.text_knowledge.specs.Knowledge.{slips_text}
use Rattle.text_knowledge.specs.Mail.{standing_text}

abbrev pub entry_text : Entry → List (List ℕ)
entry_text e = text " " ∷ decimal e.number ∷ standing_text e.delivered ∷ []

unfoldable pub entries_text : List Entry → List (List ℕ)
entries_text [] = []
entries_text (e ∷ l) = entry_text e ++ entries_text l

abbrev pub receiver_text : Receiver → List (List ℕ)
receiver_text (Client k) = text "kiosk " ∷ decimal k.0 ∷ []
receiver_text (Server j) = text "keeper " ∷ decimal j.0 ∷ []

-- the box of receiver r
unfoldable pub box_text : System → Receiver → List (List ℕ)
box_text u r = receiver_text r ++ (text " mail" ∷ (entries_text (index_of r u.transit) ++ ends))

-- the boxes of receivers 1 to n of a kind
unfoldable pub boxes_of : (ℕ → Receiver) → System → ℕ → List (List ℕ)
boxes_of kind u zero = []
boxes_of kind u (suc i) = boxes_of kind u i ++ box_text u (kind (suc i))

abbrev pub server_boxes_text : System → ℕ → List (List ℕ)
server_boxes_text = boxes_of (λ (j : ℕ). Server (server_no j))

abbrev pub client_boxes_text : System → ℕ → List (List ℕ)
client_boxes_text = boxes_of (λ (k : ℕ). Client (client_no k))

-- those of n servers and so many clients
abbrev pub boxes_text : System → ℕ → ℕ → List (List ℕ)
boxes_text u n clients = server_boxes_text u n ++ client_boxes_text u clients

-- all slips of a system with n servers and so many clients, and its boxes
abbrev pub slips_boxes_text : System → ℕ → ℕ → List (List ℕ)
slips_boxes_text u n clients = slips_text u n clients ++ boxes_text u n clients
