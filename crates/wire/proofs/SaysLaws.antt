-- The answers in document 01's numbers: each definition of an answer, said in numbers, is the table's row.
use Rattle.wire.specs.declared.Sent.{Sent}
use Rattle.ids.specs.declared.Refusal.{Refusal}
use Prim.Native.Nat.{ℕ}
use mathlib.Core.Path.{◌≡◌, refl, ap, ◌∙◌}
use mathlib.Core.Bool.{Bool, true, false, not}
use mathlib.Core.List.{List}
use lib.Dec.{eqb, ltb}
use lib.ListN.{length}
use Rattle.std.specs.Prelude.{if◌then◌else◌, Ok, Err, Result}
use Rattle.ids.specs.declared.Refusal.TheVariants.{HeaderShort, KindUnknown, LengthWrong, MessageCut, NumberOutOfRange, RoomShort}
use Rattle.ids.proofs.Choice.{of_choice}
use Rattle.wire.specs.Format.{known, fields_in, message_of, length_of, length_in, kind_in, valid, valid_fields, size_of}
use Rattle.wire.specs.Calls.{read_of, read_up_to, numbers_of, write_of, write_up_to, buffer_after, lay_of, write_numbers, numbers_after}
use Rattle.wire.specs.Step.{Outcome, refused, stepped, answer_of}
use Rattle.wire.specs.Says.{parsed_says, numbers_says, read_says, written_says, write_says, answer_says, outcome_says}
use Rattle.wire.specs.declared.Fields.{Fields}
use Rattle.wire.specs.declared.Message.{Message}

module _ (s : List ℕ) where
  read-row : parsed_says (read_of s) ≡ read_says s
  unfolding read_up_to read_says
  read-row =
      let m : Message = message_of (fields_in s) in
      let size : ℕ = length_of (kind_in s) in
      of_choice parsed_says (ltb (length s) 4) (Err HeaderShort) _ refl
      (of_choice parsed_says (not (known (kind_in s))) (Err KindUnknown) _ refl
      (of_choice parsed_says (not (eqb (length_in s) size)) (Err LengthWrong) _ refl
      (of_choice parsed_says (ltb (length s) size) (Err MessageCut) _ refl
      (of_choice parsed_says (not (valid m)) (Err NumberOutOfRange) (Ok (m, size)) refl refl))))

  pub read-said : (r : Result (Message × ℕ) Refusal) → r ≡ read_of s → (r ≡ read_of s) × (parsed_says r ≡ read_says s)
  read-said r e = (e, ap parsed_says e ∙ read-row)

  same_numbers : (p : Result (Message × ℕ) Refusal) → numbers_says (numbers_of p) ≡ parsed_says p
  same_numbers (Ok (m, used)) = refl
  same_numbers (Err e) = refl

  pub numbers-said : (r : Result (Fields × ℕ) Refusal) → r ≡ numbers_of (read_of s) → (r ≡ numbers_of (read_of s)) × (numbers_says r ≡ read_says s)
  numbers-said r e = (e, ap numbers_says e ∙ (same_numbers (read_of s) ∙ read-row))

module _ (buffer : List ℕ) where
  write_row : (m : Message) → written_says (write_of m (length buffer)) ≡ write_says (valid m) (size_of m) (length buffer)
  unfolding write_up_to write_says
  write_row m =
      of_choice written_says (not (valid m)) (Err NumberOutOfRange) _ refl
      (of_choice written_says (ltb (length buffer) (size_of m)) (Err RoomShort) (Ok (size_of m)) refl refl)

  pub write_said : (m : Message) (r : Result ℕ Refusal) (l : List ℕ) → (r ≡ write_of m (length buffer)) × (l ≡ buffer_after m buffer)
      → ((r ≡ write_of m (length buffer)) × (l ≡ buffer_after m buffer)) × (written_says r ≡ write_says (valid m) (size_of m) (length buffer))
  write_said m r l e = (e, ap written_says e.0 ∙ write_row m)

  numbers-row : (f : Fields) (ok : Bool)
      → written_says (if ok then lay_of f (length buffer) else Err NumberOutOfRange) ≡ write_says ok (length_of f.kind) (length buffer)
  unfolding lay_of write_says
  numbers-row f true =
      of_choice written_says (ltb (length buffer) (length_of f.kind)) (Err RoomShort) (Ok (length_of f.kind)) refl refl
  numbers-row f false = refl

  pub fields_said : (f : Fields) (r : Result ℕ Refusal) (l : List ℕ) → (r ≡ write_numbers f (length buffer)) × (l ≡ numbers_after f buffer)
      → ((r ≡ write_numbers f (length buffer)) × (l ≡ numbers_after f buffer)) × (written_says r ≡ write_says (valid_fields f) (length_of f.kind) (length buffer))
  fields_said f r l e = (e, ap written_says e.0 ∙ numbers-row f (valid_fields f))

-- a step's answer says what its outcome says
answer-row : {A : Type 0} (o : Outcome A) → answer_says (answer_of o) ≡ outcome_says o
answer-row (refused e) = refl
answer-row (stepped s) = refl

pub answer-said : {A : Type 0} (o : Outcome A) (r : Result Sent Refusal) → r ≡ answer_of o → answer_says r ≡ outcome_says o
answer-said o r e = ap answer_says e ∙ answer-row o
