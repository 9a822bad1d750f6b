-- A call on a head and a lent row: what it gives, and what it leaves of row and buffer.
use Rattle.std.specs.Prelude.{ℕ, ◌≡◌, List, length}
use Rattle.wire.specs.Step.{Outcome, with_room, sent_into}
use Rattle.wire.specs.Says.{answer_says, outcome_says}
use Rattle.client_responses.specs.Figure1.{State}
use Rattle.client.specs.declared.Head.{Head}
use Rattle.client.specs.declared.Turned.{Turned}
use Rattle.client.specs.Calls.{row_after, turned}

-- what a call on head h, the row and buffer o hands back, by its outcome x before the room is known: the answer r, the row and the buffer; and the
-- answer in document 01's numbers
abbrev pub Answers : Head → List ℕ → Outcome State → List ℕ → Turned → List ℕ → List ℕ → Type 0
Answers h row x o r after l =
    (r ≡ turned h (with_room (length o) x)) × (after ≡ row_after row (with_room (length o) x)) × (l ≡ sent_into o (with_room (length o) x))
    × (answer_says r.answer ≡ outcome_says (with_room (length o) x))
