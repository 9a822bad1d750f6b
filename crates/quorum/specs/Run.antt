-- The unsafe run, event by event: refused 7, then 17 for a setting that is not unsafe or a number outside its run.
use Rattle.ids.specs.declared.Refusal.{Refusal}
use Rattle.std.specs.Prelude.{ℕ, not, [], ◌∷◌, length, if◌then◌else◌, Ok, Err, Result}
use Rattle.ids.specs.Limits.{within}
use Rattle.ids.specs.Refusals.{code, Says, accepts, refuses}
use Rattle.ids.specs.declared.Refusal.TheVariants.{ParameterOutOfRange, NoSuchParty}
use Rattle.system.specs.declared.Event.{Event as Happening, Event}
use Rattle.system.specs.declared.Event.TheVariants.{Try}
use Rattle.system.specs.Numbered.{at, client_no}
use Rattle.system.specs.Setting.{unsafe_run}
use Rattle.quorum.specs.Check.{in_range, is_unsafe}

-- the answer for a setting in range
unfoldable pub listed_event : ℕ → ℕ → ℕ → ℕ → Result Event Refusal
listed_event n m f i =
    if not (is_unsafe n m f) then Err NoSuchParty
    else if within i (length (unsafe_run n m)) then Ok (at (Try (client_no 1)) (unsafe_run n m) i)
    else Err NoSuchParty

unfoldable pub run_event : ℕ → ℕ → ℕ → ℕ → Result Event Refusal
run_event n m f i = if in_range n m f then listed_event n m f i else Err ParameterOutOfRange

-- the answers in document 01's numbers: the event
abbrev pub asked_says : Result Event Refusal → Says Happening
asked_says (Ok e) = accepts (e ∷ [])
asked_says (Err x) = refuses (code x)

unfoldable pub event_says : ℕ → ℕ → ℕ → ℕ → Says Happening
event_says n m f i =
    if in_range n m f then
    if not (is_unsafe n m f) then refuses 17
    else if within i (length (unsafe_run n m)) then accepts (at (Try (client_no 1)) (unsafe_run n m) i ∷ [])
    else refuses 17
    else refuses 7
