-- The state of a script as words: what a reader of it has taken in so far. 0 is none.
-- First the head: the stage, the event lines answered, those accepted, the most holders at once, and the bytes of the line so far.
-- Then those bytes, a word for each, and the simulation's words.
use Rattle.std.specs.Prelude.{ℕ, ◌+◌, Bool, ◌&&◌, List, eqb, leb, length, get_or, take, drop, if◌then◌else◌}
use Rattle.ids.specs.Lists.{every}
use Rattle.sim_blocks.specs.Regions.{region}
use Rattle.system.specs.Places.{holders}
use Rattle.system.specs.Limits.{system_clients}
use Rattle.sim_layout.specs.Layout as layout
use Rattle.sim_run.specs.declared.Counts.{Counts}
use Rattle.sim_run.specs.Calls.{run_in}
use Rattle.script_output.specs.Output.{max_lines}
use Rattle.script_output.specs.Reader.{Script, Stage, opening, running, closed, Reader, max_kept}

-- where each word of the head stands
abbrev pub stage_at : ℕ
stage_at = 0

abbrev pub answered_at : ℕ
answered_at = 1

abbrev pub accepted_at : ℕ
accepted_at = 2

abbrev pub holding_at : ℕ
holding_at = 3

abbrev pub length_at : ℕ
length_at = 4

-- the stages: before the first line, while the script runs, when its first line was refused or it has ended
abbrev pub stage_opening : ℕ
stage_opening = 0

abbrev pub stage_running : ℕ
stage_running = 1

abbrev pub stage_closed : ℕ
stage_closed = 2

-- the words before the line, before the simulation, and all
abbrev pub line_from : ℕ
line_from = 5

abbrev pub state_head : ℕ
state_head = line_from + max_kept

abbrev pub state_size : ℕ
state_size = state_head + layout.simulation_size

-- the parts: the head, the line's words, the simulation's
pub record Head : Type 0 where
  pub stage : ℕ
  pub answered : ℕ
  pub accepted : ℕ
  pub holding : ℕ
  pub length : ℕ

unfoldable pub head_in : List ℕ → Head
head_in w =
    record {
      stage = get_or w stage_at 0;
      answered = get_or w answered_at 0;
      accepted = get_or w accepted_at 0;
      holding = get_or w holding_at 0;
      length = get_or w length_at 0;
    }

unfoldable pub kept_in : List ℕ → List ℕ
kept_in w = region line_from max_kept w

unfoldable pub simulation_in : List ℕ → List ℕ
simulation_in w = region state_head layout.simulation_size w

-- the reader that the parts are
abbrev pub counts_in : Head → Counts
counts_in h = record { accepted = h.accepted; holding = h.holding }

abbrev pub script_in : Head → List ℕ → Script
script_in h s = record { answered = h.answered; run = run_in (counts_in h) s }

unfoldable pub stage_of : Head → List ℕ → Stage
stage_of h s = if eqb h.stage stage_opening then opening else if eqb h.stage stage_running then running (script_in h s) else closed

abbrev pub line_of : Head → List ℕ → List ℕ
line_of h l = take h.length l

unfoldable pub view : List ℕ → Reader
view w = record { stage = stage_of (head_in w) (simulation_in w); line = line_of (head_in w) (kept_in w) }

-- a script that runs has a valid simulation, and counts in range
unfoldable pub valid_run : Head → List ℕ → Bool
valid_run h s =
    layout.valid s
    && (leb h.answered max_lines
    && (leb h.accepted h.answered && (leb (holders (layout.view s)) h.holding && leb h.holding system_clients)))

-- one that does not run has none of it: its counts and the simulation's words are 0
unfoldable pub valid_idle : Head → List ℕ → Bool
valid_idle h s = eqb h.answered 0 && (eqb h.accepted 0 && (eqb h.holding 0 && layout.blank s))

-- the line's words are bytes, and those behind the line so far are 0
abbrev pub byte_word : ℕ → Bool
byte_word x = leb x 255

unfoldable pub valid_line : ℕ → List ℕ → Bool
valid_line len l = leb len max_kept && (every byte_word l && layout.blank (drop len l))

unfoldable pub valid_parts : Head → List ℕ → List ℕ → Bool
valid_parts h l s =
    leb h.stage stage_closed && (valid_line h.length l && (if eqb h.stage stage_running then valid_run h s else valid_idle h s))

-- valid: the words are there and are these parts. So each word is one that the reader has or 0, and the reader determines all of them
-- (proofs/Determined).
unfoldable pub valid : List ℕ → Bool
valid w = eqb (length w) state_size && valid_parts (head_in w) (kept_in w) (simulation_in w)
