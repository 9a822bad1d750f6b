-- What an event does to a simulation: the system's event with refusal 19, seen through `view`.
use Rattle.sim_changes.specs.declared.Effect.{Effect}
use Rattle.ids.specs.declared.Refusal.{Refusal}
use Rattle.std.specs.Prelude.{Result, ◌≡◌, ℕ, true, false, List, [], ◌∷◌, length, if◌then◌else◌, Ok, Err}
use Rattle.ids.specs.Refusals.{code, Says, accepts, refuses}
use Rattle.ids.specs.declared.Refusal.TheVariants.{InvalidRecord}
use Rattle.wire.specs.Step.{refused, stepped}
use Rattle.client_responses.specs.Figure1.{enough}
use Rattle.system.specs.Limits.{system_messages, last_number}
use Rattle.system.specs.declared.Event.{Event}
use Rattle.system.specs.Places.{System, holders}
use Rattle.system.specs.Events.{EventOutcome, event, with_places}
use Rattle.system.specs.Runs.{after, is_stepped}
use Rattle.sim_layout.specs.Layout.{setting_of, view, valid}

-- an event with n servers and threshold m
abbrev pub bounded : ℕ → ℕ → System → Event → EventOutcome
bounded n m u e = with_places system_messages last_number (event n (enough m) u e)

-- the event's outcome
abbrev pub happens : List ℕ → Event → EventOutcome
happens w e = bounded (setting_of w).n (setting_of w).m (view w) e

-- of a valid simulation w the words w' are what the event leaves: valid again, and so with the index made afresh from their messages
pub record Leaves (w : List ℕ) (e : Event) (w' : List ℕ) : Type 0 where
  pub system : view w' ≡ after (view w) (happens w e)
  pub setting : setting_of w' ≡ setting_of w
  pub again : valid w' ≡ true
  pub kept : is_stepped (happens w e) ≡ false → w' ≡ w

-- how many messages the event sent, or its refusal
abbrev pub moved_of : EventOutcome → Result ℕ Refusal
moved_of (refused x) = Err x
moved_of (stepped s) = Ok (length s.sent)

-- the same with the living holders afterwards
unfoldable pub reply_of : System → EventOutcome → Result Effect Refusal
reply_of u (refused x) = Err x
reply_of u (stepped s) = Ok (record { sent = length s.sent; holders = holders (after u (stepped s)) })

-- `event` of any words: 21, or what the event does
unfoldable pub event_reply : List ℕ → Event → Result Effect Refusal
event_reply w e = if valid w then reply_of (view w) (happens w e) else Err InvalidRecord

-- the answers in document 01's numbers: the messages sent; and with them the living holders
abbrev pub moved_says : Result ℕ Refusal → Says ℕ
moved_says (Err x) = refuses (code x)
moved_says (Ok count) = accepts (count ∷ [])

abbrev pub reply_says : Result Effect Refusal → Says ℕ
reply_says (Err x) = refuses (code x)
reply_says (Ok s) = accepts (s.sent ∷ s.holders ∷ [])

abbrev pub result_says : System → EventOutcome → Says ℕ
result_says u (refused x) = refuses (code x)
result_says u (stepped s) = accepts (length s.sent ∷ holders (after u (stepped s)) ∷ [])

unfoldable pub event_says : List ℕ → Event → Says ℕ
event_says w e = if valid w then result_says (view w) (happens w e) else refuses 21

pub record EventLeaves (w : List ℕ) (e : Event) (w' : List ℕ) : Type 0 where
  pub valid_leaves : valid w ≡ true → Leaves w e w'
  pub invalid_kept : valid w ≡ false → w' ≡ w
