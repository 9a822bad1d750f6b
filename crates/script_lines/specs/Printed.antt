-- The lines that a run prints, each with its newline, and the lines of a script, without it.
use Rattle.std.specs.Prelude.{ℕ, List, [], ◌∷◌, ◌++◌}
use Rattle.ids.specs.Refusals.{code}
use Rattle.ids.specs.declared.Refusal.{Refusal}
use Rattle.system.specs.declared.Event.{Event}
use Rattle.system.specs.declared.Event.TheVariants.{Try, Exit, Fall, Down, Up, Take, Drop, Miss, Check}
use Rattle.script_numbers.specs.Decimals.{decimal}
use Rattle.script_lines.specs.Words.{text, newline, spaced}
use Rattle.system.specs.declared.Setting.{Setting}

abbrev pub printed : List (List ℕ) → List ℕ
printed ws = spaced ws ++ (newline ∷ [])

-- the four numbers of a setting
abbrev pub four_words : Setting → List (List ℕ)
four_words s = decimal s.n ∷ decimal s.m ∷ decimal s.f ∷ decimal s.clients ∷ []

-- the header is the setting
unfoldable pub header_line : Setting → List ℕ
header_line s = printed (text "gallery" ∷ four_words s)

-- event number i was accepted: the messages sent, the living holders
unfoldable pub ok_line : ℕ → ℕ → ℕ → List ℕ
ok_line i sent holders = printed (decimal i ∷ text "ok" ∷ decimal sent ∷ decimal holders ∷ [])

-- event number i was refused
unfoldable pub no_line : ℕ → Refusal → List ℕ
no_line i e = printed (decimal i ∷ text "no" ∷ decimal (code e) ∷ [])

-- accepted events, most living holders at once, most servers ever down within one epoch
unfoldable pub end_line : ℕ → ℕ → ℕ → List ℕ
end_line accepted holders downs = printed (text "end" ∷ decimal accepted ∷ decimal holders ∷ decimal downs ∷ [])

-- the first line was refused
unfoldable pub refused_line : Refusal → List ℕ
refused_line e = printed (text "no" ∷ decimal (code e) ∷ [])

-- an event as a line of a script: its command and its number
abbrev pub word_of : Event → List ℕ
word_of (Try k) = text "try"
word_of (Exit k) = text "exit"
word_of (Fall k) = text "fall"
word_of (Down j) = text "down"
word_of (Up j) = text "up"
word_of (Take i) = text "take"
word_of (Drop i) = text "drop"
word_of (Miss j) = text "miss"
word_of (Check j) = text "check"

abbrev pub number_of : Event → ℕ
number_of (Try k) = k.0
number_of (Exit k) = k.0
number_of (Fall k) = k.0
number_of (Down j) = j.0
number_of (Up j) = j.0
number_of (Take i) = i.0
number_of (Drop i) = i.0
number_of (Miss j) = j.0
number_of (Check j) = j.0

unfoldable pub event_line : Event → List ℕ
event_line e = spaced (word_of e ∷ decimal (number_of e) ∷ [])

-- a setting as the first line of a script
unfoldable pub setting_line : Setting → List ℕ
setting_line s = spaced (text "setting" ∷ four_words s)
