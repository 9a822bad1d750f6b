-- What the exported calls of the setting check return, 0 or a refusal's number, and what they leave in the words they were lent.
use Rattle.ids.specs.declared.Refusal.{Refusal}
use Rattle.std.specs.Prelude.{ℕ, ◌-◌, List, [], ◌∷◌, ltb, ℤ, pos, negsuc, length, if◌then◌else◌, Ok, Err, Result, Some, None, Option}
use Rattle.std.proofs.lemmas.List.Edits.{sets}
use Rattle.ids.specs.Refusals.{code}
use Rattle.ids.specs.declared.Refusal.TheVariants.{RoomShort, ParameterOutOfRange}
use Rattle.system.specs.declared.Event.{Event}
use Rattle.system.specs.declared.Event.TheVariants.{Try, Exit, Fall, Down, Up, Take, Drop, Miss, Check}
use Rattle.quorum.specs.declared.Verdict.{Verdict}
use Rattle.quorum.specs.declared.Verdict.TheVariants.{Accepted, Unsafe, Stalls, OutOfRange}
use Rattle.quorum.specs.Check.{number_of}

-- a signed number in 32 bits, two's complement
abbrev pub signed_word : ℤ → ℕ
signed_word (pos a) = a
signed_word (negsuc a) = 4294967295 - a

-- a call that gives so many words: 6, the last refusal, where fewer are lent
abbrev pub with_words : ℕ → List ℕ → ℕ → ℕ
with_words size ws number = if ltb (length ws) size then code RoomShort else number

abbrev pub given : List ℕ → List ℕ → List ℕ
given ws new = if ltb (length ws) (length new) then ws else sets ws 0 new

-- `sigma_setting`: 7; then, with room for two words, 0, 8 or 9 with the margin and the events in the run
abbrev pub setting_code : Verdict → List ℕ → ℕ
setting_code OutOfRange ws = code ParameterOutOfRange
setting_code (Accepted x) ws = with_words 2 ws (number_of (Accepted x))
setting_code (Unsafe x events) ws = with_words 2 ws (number_of (Unsafe x events))
setting_code (Stalls x) ws = with_words 2 ws (number_of (Stalls x))

abbrev pub setting_words : Verdict → List ℕ → List ℕ
setting_words OutOfRange ws = ws
setting_words (Accepted x) ws = given ws (signed_word x ∷ 0 ∷ [])
setting_words (Unsafe x events) ws = given ws (signed_word x ∷ events ∷ [])
setting_words (Stalls x) ws = given ws (signed_word x ∷ 0 ∷ [])

-- an event in the script's order of names, and the number that it names
abbrev pub event_kind : Event → ℕ
event_kind (Try k) = 1
event_kind (Exit k) = 2
event_kind (Fall k) = 3
event_kind (Down j) = 4
event_kind (Up j) = 5
event_kind (Take i) = 6
event_kind (Drop i) = 7
event_kind (Miss j) = 8
event_kind (Check j) = 9

abbrev pub event_number : Event → ℕ
event_number (Try k) = k.0
event_number (Exit k) = k.0
event_number (Fall k) = k.0
event_number (Down j) = j.0
event_number (Up j) = j.0
event_number (Take i) = i.0
event_number (Drop i) = i.0
event_number (Miss j) = j.0
event_number (Check j) = j.0

-- `sigma_run_event`: 7, 17; then, with room for two words, 0 with the event and its number
abbrev pub event_code : Result Event Refusal → List ℕ → ℕ
event_code (Err x) ws = code x
event_code (Ok e) ws = with_words 2 ws 0

abbrev pub event_words : Result Event Refusal → List ℕ → List ℕ
event_words (Err x) ws = ws
event_words (Ok e) ws = given ws (event_kind e ∷ event_number e ∷ [])

-- `sigma_default_threshold`: 7; then, with room for a word, 0 with the threshold
abbrev pub threshold_code : Option ℕ → List ℕ → ℕ
threshold_code None ws = code ParameterOutOfRange
threshold_code (Some t) ws = with_words 1 ws 0

abbrev pub threshold_words : Option ℕ → List ℕ → List ℕ
threshold_words None ws = ws
threshold_words (Some t) ws = given ws (t ∷ [])
