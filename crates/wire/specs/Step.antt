-- What a step of a client or a server gives: the new state and the messages sent, in order; or the refusal, which changes nothing.
use Rattle.wire.specs.declared.Sent.{Sent}
use Rattle.std.specs.Prelude.{ℕ, List, [], ◌∷◌, ◌++◌, ltb, length, if◌then◌else◌, Ok, Err, Result}
use Rattle.std.proofs.lemmas.List.Edits.{sets}
use Rattle.ids.specs.declared.Refusal.{Refusal}
use Rattle.ids.specs.declared.Refusal.TheVariants.{RoomShort}
use Rattle.wire.specs.Format.{bytes_of_all, size_of_all}
use Rattle.wire.specs.declared.Message.{Message}

pub record Step (A : Type 0) : Type 0 where
  pub state : A
  pub sent : List Message

pub data Outcome (A : Type 0) : Type 0 where
  refused : Refusal → Outcome A
  stepped : Step A → Outcome A

module _ {A : Type 0} where
  -- nothing changes and nothing is sent
  abbrev pub stay : A → Step A
  stay a = record { state = a; sent = [] }

  -- one message is sent
  abbrev pub tell : A → Message → Step A
  tell a m = record { state = a; sent = m ∷ [] }

  -- one step after another: the messages in this order
  infixl 6 ◌then◌
  abbrev pub ◌then◌ : Step A → (A → Step A) → Step A
  s then f = record { state = (f s.state).state; sent = s.sent ++ (f s.state).sent }

  -- refusal 6, always the last: the room is counted for all messages, in bytes as written
  unfoldable pub with_room : ℕ → Outcome A → Outcome A
  with_room room (refused e) = refused e
  with_room room (stepped s) = if ltb room (size_of_all s.sent) then refused RoomShort else stepped s

  -- what the call answers: the messages sent and their bytes, or the refusal
  abbrev pub answer_of : Outcome A → Result Sent Refusal
  answer_of (refused e) = Err e
  answer_of (stepped s) = Ok (record { messages = length s.sent; bytes = size_of_all s.sent })

  -- the buffer afterwards: the messages one after another from its start, the bytes behind them as found
  abbrev pub sent_into : List ℕ → Outcome A → List ℕ
  sent_into buffer (refused e) = buffer
  sent_into buffer (stepped s) = sets buffer 0 (bytes_of_all s.sent)
