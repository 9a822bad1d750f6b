-- The listing as text: document 02, L5. A run is a line of its events as a script has them, with commas between them; the last line has
-- two numbers, the runs and those with two holders at some moment.
use Rattle.ids.specs.declared.Refusal.{Refusal}
use Rattle.std.specs.Prelude.{ℕ, List, [], ◌∷◌, ◌++◌, map, length, Ok, Err, Result}
use Rattle.system.specs.declared.Event.{Event}
use Rattle.system.specs.declared.Setting.{Setting}
use Rattle.script_numbers.specs.Decimals.{decimal}
use Rattle.script_lines.specs.Words.{newline}
use Rattle.script_lines.specs.Printed.{event_line, printed, refused_line}
use Rattle.listing.specs.Listing.{each, runs, meetings}

abbrev pub comma : ℕ
comma = 44

-- texts with a comma between each two
unfoldable pub commaed : List (List ℕ) → List ℕ
commaed [] = []
commaed (t ∷ []) = t
commaed (t ∷ u ∷ ts) = t ++ comma ∷ commaed (u ∷ ts)

-- a run; the empty one is an empty line
unfoldable pub run_line : List Event → List ℕ
run_line es = commaed (map event_line es) ++ (newline ∷ [])

-- the two numbers
unfoldable pub counts_line : ℕ → ℕ → List ℕ
counts_line all two = printed (decimal all ∷ decimal two ∷ [])

-- the whole listing of a setting and a count of events
unfoldable pub listing : Setting → ℕ → List ℕ
listing s events = each run_line (runs s events) ++ counts_line (length (runs s events)) (meetings s events)

-- what is printed for what is asked
unfoldable pub text_of : Result (Setting × ℕ) Refusal → List ℕ
text_of (Ok (s, events)) = listing s events
text_of (Err x) = refused_line x
