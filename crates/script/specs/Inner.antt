-- Definitions that only the contracts of private functions cite: no promise rests on them.
use Rattle.script.specs.declared.Progress.{Progress}
use Rattle.sim_changes.specs.declared.Effect.{Effect}
use Rattle.std.specs.Prelude.{ℕ, suc, ◌+◌, ◌≤◌, ◌<◌, ◌≡◌, true, List, [], length, get_or, set, replicate, Ok, Err, Result}
use Rattle.std.proofs.lemmas.List.Edits.{sets}
use Rattle.ids.specs.declared.Refusal.{Refusal}
use Rattle.system.specs.declared.Event.{Event}
use Rattle.sim_run.specs.declared.Counts.{Counts}
use Rattle.sim_run.specs.Run.{happens, next}
use Rattle.script_lines.specs.Printed.{no_line, ok_line}
use Rattle.script_output.specs.Output.{answer_line, max_lines}
use Rattle.script_output.specs.Reader.{Script, Stage, running, closed, Reader, Printed, onward, max_printed, fed_within, finished, max_kept}
use Rattle.script.specs.State.{stage_running, stage_at, answered_at, accepted_at, holding_at, length_at, line_from, state_size, view, valid}

-- Inside, what a valid state gives is handed on: its length, and the length of the line.
pub record Sound (w : List ℕ) : Type 0 where
  pub valid : valid w ≡ true
  pub long : length w ≡ state_size
  pub short : get_or w length_at 0 ≤ max_kept

-- and there is room for one line from place `at` on
pub record Ready (w out : List ℕ) (at : ℕ) : Type 0 where
  pub valid : valid w ≡ true
  pub long : length w ≡ state_size
  pub short : get_or w length_at 0 ≤ max_kept
  pub room : at + max_printed ≤ length out

-- a script that runs, with an event line still to be read
pub record Reads (w : List ℕ) : Type 0 where
  pub runs : get_or w stage_at 0 ≡ stage_running
  pub more : get_or w answered_at 0 < max_lines
  pub fewer : get_or w accepted_at 0 ≤ get_or w answered_at 0

-- the words without the line so far
abbrev pub without_line : List ℕ → List ℕ
without_line w = set (sets w line_from (replicate (get_or w length_at 0) 0)) length_at 0

-- these bytes, no more than a line has, were printed from place `at` on, and r is the place behind them
pub record Prints (out : List ℕ) (at : ℕ) (l out' : List ℕ) (r : ℕ) : Type 0 where
  pub place : r ≡ at + length l
  pub bytes : out' ≡ sets out at l
  pub few : length l ≤ max_printed

-- the stage became and printed this, from place `at` on, and r is the place behind it; the line is as it was
pub record Does (w out : List ℕ) (at : ℕ) (p : Printed Stage) (w' out' : List ℕ) (r : ℕ) : Type 0 where
  pub stage : (view w').stage ≡ p.now
  pub line : (view w').line ≡ (view w).line
  pub again : valid w' ≡ true
  pub prints : Prints out at p.out out' r

-- the same of the whole reader
pub record Takes (out : List ℕ) (at : ℕ) (p : Printed Reader) (w' out' : List ℕ) (r : ℕ) : Type 0 where
  pub reader : view w' ≡ p.now
  pub again : valid w' ≡ true
  pub prints : Prints out at p.out out' r

-- the bytes were taken in while there was room for a line
pub record FedAs (w input out w' out' : List ℕ) (r : Result Progress Refusal) : Type 0 where
  pub answer : r ≡ Ok (record { used = (fed_within (length out) (view w) input).used; wrote = length (fed_within (length out) (view w) input).out })
  pub reader : view w' ≡ (fed_within (length out) (view w) input).now
  pub again : valid w' ≡ true
  pub bytes : out' ≡ sets out 0 (fed_within (length out) (view w) input).out
  pub within : length (fed_within (length out) (view w) input).out ≤ length out

-- the script was closed, and its end printed
pub record Closes (w out w' out' : List ℕ) (r : ℕ) : Type 0 where
  pub reader : view w' ≡ record { stage = closed; line = [] }
  pub again : valid w' ≡ true
  pub place : r ≡ length (finished (view w))
  pub bytes : out' ≡ sets out 0 (finished (view w))
  pub within : length (finished (view w)) ≤ length out

-- an event of a script that runs, and a line that changes nothing
abbrev pub happened : Script → Event → Printed Stage
happened r e =
    record {
      now = running (onward r (next r.run e));
      out = answer_line (suc r.answered) r.run.system (happens r.run.setting r.run.system e);
    }

abbrev pub passing : Script → Refusal → Printed Stage
passing r x = record { now = running (onward r r.run); out = no_line (suc r.answered) x }

-- the line of a reply, and the words with the lines answered and the counts stored
unfoldable pub reply_line : ℕ → Result Effect Refusal → List ℕ
reply_line i (Err x) = no_line i x
reply_line i (Ok s) = ok_line i s.sent s.holders

abbrev pub with_counts : List ℕ → ℕ → Counts → List ℕ
with_counts w answered c = set (set (set w answered_at answered) accepted_at c.accepted) holding_at c.holding
