-- What the exported calls on a simulation say, in document 01's numbers, and what they leave in the words that they were lent.
use Rattle.std.specs.Prelude.{ℕ, ◌≤◌, ◌≡◌, ◌&&◌, List, eqb, ltb, length, if◌then◌else◌}
use Rattle.std.proofs.lemmas.List.Edits.{sets}
use Rattle.ids.specs.Refusals.{Says, refuses}
use Rattle.system.specs.declared.Event.{Event as Happening}
use Rattle.sim_layout.specs.Layout.{valid}
use Rattle.sim_changes.specs.Happens.{event_says, EventLeaves}
use Rattle.script_lines.specs.declared.Command.{Command}
use Rattle.script_lines.specs.declared.Command.TheVariants.{Try, Exit, Fall, Down, Up, Take, Drop, Miss, Check, Other}
use Rattle.script_lines.specs.declared.Line.{Line}
use Rattle.script_lines.specs.declared.Line.TheVariants.{Event, Unknown, Bad}
use Rattle.script_lines.specs.Lines.{event_of, line_of}

-- the event that two words are: its kind in the script's order of names, and the number that it names
unfoldable pub command_of : ℕ → Command
command_of kind =
    if eqb kind 1 then Try
    else if eqb kind 2 then Exit
    else if eqb kind 3 then Fall
    else if eqb kind 4 then Down
    else if eqb kind 5 then Up
    else if eqb kind 6 then Take
    else if eqb kind 7 then Drop
    else if eqb kind 8 then Miss
    else if eqb kind 9 then Check
    else Other

abbrev pub asked : ℕ → ℕ → Line
asked kind number = line_of (event_of (command_of kind) number)

-- 16 no such kind; 21; then 17 for a number that no client or server can have, or what the event says
unfoldable pub simulation_says : List ℕ → Line → Says ℕ
simulation_says w Bad = refuses 16
simulation_says w Unknown = if valid w then refuses 17 else refuses 21
simulation_says w (Event e) = event_says w e

-- 6, last: an accepted event has two words to give
abbrev pub answer_words : ℕ
answer_words = 2

unfoldable pub with_words : ℕ → Says ℕ → Says ℕ
with_words room s = if eqb s.number 0 && ltb room answer_words then refuses 6 else s

abbrev pub call_says : List ℕ → Line → ℕ → Says ℕ
call_says w l room = with_words room (simulation_says w l)

-- the words of an answer, and all others as found
abbrev pub given : List ℕ → Says ℕ → List ℕ
given answer s = if eqb s.number 0 then sets answer 0 s.values else answer

-- what the call of an event leaves: its number is 0 or the refusal's; an accepted one the event's simulation and answer, a refused one all as it was
pub record Leaves (w : List ℕ) (l : Line) (answer : List ℕ) (r : ℕ) (w' answer' : List ℕ) : Type 0 where
  pub number : r ≡ (call_says w l (length answer)).number
  pub told : answer' ≡ given answer (call_says w l (length answer))
  pub happened : (e : Happening) → l ≡ Event e → answer_words ≤ length answer → EventLeaves w e w'
  pub kept : ((call_says w l (length answer)).number ≡ 0 → ⊥) → w' ≡ w
