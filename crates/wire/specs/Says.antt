-- The answers of `read` and `write`, of a new record and of a step in document 01's numbers: what each case says; and the table's rows for these calls.
use Rattle.wire.specs.declared.Sent.{Sent}
use Rattle.ids.specs.declared.Refusal.{Refusal}
use Rattle.wire.specs.declared.Message.{Message}
use Rattle.std.specs.Prelude.{ℕ, Bool, not, List, [], ◌∷◌, ◌++◌, eqb, ltb, length, if◌then◌else◌, Ok, Err, Result}
use Rattle.ids.specs.Refusals.{code, Says, accepts, refuses}
use Rattle.wire.specs.Format.{known, words, fields_of, fields_in, message_of, length_of, length_in, kind_in, valid, size_of_all}
use Rattle.wire.specs.Step.{Outcome, refused, stepped}
use Rattle.wire.specs.declared.Fields.{Fields}

-- read: the message's five numbers and the bytes used
abbrev pub read_values : Fields → ℕ → List ℕ
read_values f used = words f ++ (used ∷ [])

abbrev pub parsed_says : Result (Message × ℕ) Refusal → Says ℕ
parsed_says (Err e) = refuses (code e)
parsed_says (Ok (m, used)) = accepts (read_values (fields_of m) used)

abbrev pub numbers_says : Result (Fields × ℕ) Refusal → Says ℕ
numbers_says (Err e) = refuses (code e)
numbers_says (Ok (f, used)) = accepts (read_values f used)

unfoldable pub read_says : List ℕ → Says ℕ
read_says s =
    if ltb (length s) 4 then refuses 1
    else if not (known (kind_in s)) then refuses 2
    else if not (eqb (length_in s) (length_of (kind_in s))) then refuses 3
    else if ltb (length s) (length_of (kind_in s)) then refuses 4
    else if not (valid (message_of (fields_in s))) then refuses 5
    else accepts (read_values (fields_of (message_of (fields_in s))) (length_of (kind_in s)))

-- write: the bytes written, by whether all numbers are in range, the message's size and the room
abbrev pub written_says : Result ℕ Refusal → Says ℕ
written_says (Err e) = refuses (code e)
written_says (Ok n) = accepts (n ∷ [])

unfoldable pub write_says : Bool → ℕ → ℕ → Says ℕ
write_says in_range size room = if not in_range then refuses 5 else if ltb room size then refuses 6 else accepts (size ∷ [])

-- a step: the messages sent and their bytes
abbrev pub answer_says : Result Sent Refusal → Says ℕ
answer_says (Err e) = refuses (code e)
answer_says (Ok s) = accepts (s.messages ∷ s.bytes ∷ [])

abbrev pub outcome_says : {A : Type 0} → Outcome A → Says ℕ
outcome_says (refused e) = refuses (code e)
outcome_says (stepped s) = accepts (length s.sent ∷ size_of_all s.sent ∷ [])

-- a new record, by whether its numbers are in range: nothing is sent
unfoldable pub new_says : Bool → Says ℕ
new_says in_range = if in_range then accepts (0 ∷ 0 ∷ []) else refuses 7
