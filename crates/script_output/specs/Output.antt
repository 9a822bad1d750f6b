-- What the gallery program prints for a whole script: document 01, 'The gallery script'.
use Rattle.std.specs.Prelude.{ℕ, suc, List, [], ◌∷◌, ◌++◌, eqb, length, take, if◌then◌else◌}
use Rattle.ids.specs.Choice.{maybe}
use Rattle.ids.specs.declared.Refusal.TheVariants.{BadLine, ParameterOutOfRange}
use Rattle.wire.specs.Step.{refused, stepped}
use Rattle.system.specs.declared.Event.{Event}
use Rattle.system.specs.Places.{System, holders}
use Rattle.system.specs.Events.{EventOutcome}
use Rattle.system.specs.Runs.{after, run_by, accepted_events, most_holders}
use Rattle.simulation.specs.Opens.{in_range}
use Rattle.sim_run.specs.Run.{fresh, happens}
use Rattle.script_lines.specs.Words.{newline}
use Rattle.script_lines.specs.Lines.{event_in, setting_in}
use Rattle.script_lines.specs.Printed.{header_line, ok_line, no_line, end_line, refused_line}
use Rattle.system.specs.declared.Setting.{Setting}

-- how many event lines of a script are read
abbrev pub max_lines : ℕ
max_lines = 1000000

-- lines: each ends with a newline, and the last one's may be missing ------------------------------------------------------------

abbrev pub continued : ℕ → List (List ℕ) → List (List ℕ)
continued b [] = (b ∷ []) ∷ []
continued b (l ∷ ls) = (b ∷ l) ∷ ls

unfoldable pub lines_of : List ℕ → List (List ℕ)
lines_of [] = []
lines_of (b ∷ s) = if eqb b newline then [] ∷ lines_of s else continued b (lines_of s)

-- event lines ---------------------------------------------------------------------------------------------------------------------

-- the answer to event number i, which gave o
unfoldable pub answer_line : ℕ → System → EventOutcome → List ℕ
answer_line i w (refused x) = no_line i x
answer_line i w (stepped t) = ok_line i (length t.sent) (holders (after w (stepped t)))

-- the answers to the lines from number i on; a bad line changes nothing
unfoldable pub answers : Setting → ℕ → System → List (List ℕ) → List ℕ
answers s i w [] = []
answers s i w (l ∷ ls) =
    maybe (event_in l) (no_line i BadLine ++ answers s (suc i) w ls)
    (λ e. answer_line i w (happens s w e) ++ answers s (suc i) (after w (happens s w e)) ls)

-- the events of the lines that are well formed
unfoldable pub events_in : List (List ℕ) → List Event
events_in [] = []
events_in (l ∷ ls) = maybe (event_in l) (events_in ls) (λ e. e ∷ events_in ls)

-- the whole ---------------------------------------------------------------------------------------------------------------------------

-- the last line: counts over the run of these events
unfoldable pub end_of : Setting → List Event → List ℕ
end_of s es =
    end_line (accepted_events (happens s) (fresh s) es) (most_holders (happens s) (fresh s) es) (run_by (happens s) (fresh s) es).most

-- what a setting and the lines after it print; an unsafe or stalling setting runs
unfoldable pub played : Setting → List (List ℕ) → List ℕ
played s ls =
    if in_range s then header_line s ++ (answers s 1 (fresh s) (take max_lines ls) ++ end_of s (events_in (take max_lines ls)))
    else refused_line ParameterOutOfRange

unfoldable pub printed_for : List (List ℕ) → List ℕ
printed_for [] = refused_line BadLine
printed_for (l ∷ ls) = maybe (setting_in l) (refused_line BadLine) (λ s. played s ls)

-- from bytes to bytes
unfoldable pub output : List ℕ → List ℕ
output input = printed_for (lines_of input)
