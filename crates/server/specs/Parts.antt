-- The messages of a step, and what sending them answers and leaves in the buffer.
use Rattle.wire.specs.declared.Sent.{Sent}
use Rattle.ids.specs.declared.Refusal.{Refusal}
use Rattle.std.specs.Prelude.{ℕ, List, ◌++◌, ltb, length, if◌then◌else◌, Ok, Err, Result, Option}
use Rattle.std.proofs.lemmas.List.Edits.{sets}
use Rattle.wire.specs.Format.{bytes_of_all, size_of_all}
use Rattle.ids.specs.declared.Refusal.TheVariants.{RoomShort}
use Rattle.wire.specs.declared.Message.{Message}
use Rattle.server_votes.specs.Places.{mails}

-- the messages of a whole step, and what sending them answers and leaves
unfoldable pub three_mails : Option Message → Option Message → Option Message → List Message
three_mails a b c = mails a ++ mails b ++ mails c

unfoldable pub sent_answer : List Message → ℕ → Result Sent Refusal
sent_answer ms room = if ltb room (size_of_all ms) then Err RoomShort else Ok (record { messages = length ms; bytes = size_of_all ms })

unfoldable pub sent_buffer : List Message → List ℕ → List ℕ
sent_buffer ms out = if ltb (length out) (size_of_all ms) then out else sets out 0 (bytes_of_all ms)
