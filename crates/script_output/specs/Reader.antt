-- The same byte by byte: what a reader of a script has taken in so far, and what it prints for each byte and at the end.
-- proofs/Whole shows that it prints `output` of the whole script, however the script comes in.
use Rattle.std.specs.Prelude.{ℕ, suc, ◌+◌, ◌-◌, List, [], ◌∷◌, ◌++◌, eqb, ltb, length, take, drop, if◌then◌else◌, Option}
use Rattle.ids.specs.Choice.{maybe}
use Rattle.ids.specs.declared.Refusal.TheVariants.{BadLine, ParameterOutOfRange}
use Rattle.script_lines.specs.Words.{newline}
use Rattle.script_lines.specs.Lines.{max_line, event_in, setting_in}
use Rattle.script_lines.specs.Printed.{header_line, no_line, end_line, refused_line}
use Rattle.system.specs.declared.Setting.{Setting}
use Rattle.simulation.specs.Opens.{in_range}
use Rattle.sim_run.specs.Run.{Run, started, happens, next}
use Rattle.script_output.specs.Output.{max_lines, answer_line}

-- a script that runs: how many event lines are answered, and the run of their events
pub record Script : Type 0 where
  pub answered : ℕ
  pub run : Run

pub data Stage : Type 0 where
  -- the first line is still to come
  opening : Stage
  running : Script → Stage
  -- the first line was refused
  closed : Stage

-- and the bytes since the last newline
pub record Reader : Type 0 where
  pub stage : Stage
  pub line : List ℕ

-- what comes of something, and what is printed
pub record Printed (A : Type 0) : Type 0 where
  pub now : A
  pub out : List ℕ

abbrev pub unanswered : Run → Script
unanswered r = record { answered = 0; run = r }

-- the first line
unfoldable pub opened : Option Setting → Printed Stage
opened o =
    maybe o (record { now = closed; out = refused_line BadLine })
    (λ s. if in_range s then record { now = running (unanswered (started s)); out = header_line s } else record { now = closed; out = refused_line ParameterOutOfRange })

-- one more line is answered, and this is the run now
abbrev pub onward : Script → Run → Script
onward r x = record { answered = suc r.answered; run = x }

-- an event line, where a bad one leaves the run; behind the last one that is read nothing is printed
unfoldable pub line_taken : Script → List ℕ → Printed Script
line_taken r l =
    if ltb r.answered max_lines then
    maybe (event_in l) (record { now = onward r r.run; out = no_line (suc r.answered) BadLine })
    (λ e. record {
      now = onward r (next r.run e);
      out = answer_line (suc r.answered) r.run.system (happens r.run.setting r.run.system e);
    })
    else record { now = r; out = [] }

unfoldable pub worked : Stage → List ℕ → Printed Stage
worked opening l = opened (setting_in l)
worked (running r) l = record { now = running (line_taken r l).now; out = (line_taken r l).out }
worked closed l = record { now = closed; out = [] }

-- a byte behind a line; of a longer line than any that is read, no more is kept
abbrev pub max_kept : ℕ
max_kept = max_line + 1

abbrev pub behind : List ℕ → ℕ → List ℕ
behind l b = take max_kept (l ++ (b ∷ []))

-- a byte, and bytes one after another
unfoldable pub taken : Reader → ℕ → Printed Reader
taken r b =
    if eqb b newline then record { now = record { stage = (worked r.stage r.line).now; line = [] }; out = (worked r.stage r.line).out }
    else record { now = record { stage = r.stage; line = behind r.line b }; out = [] }

unfoldable pub fed : Reader → List ℕ → Printed Reader
fed r [] = record { now = r; out = [] }
fed r (b ∷ s) = record { now = (fed (taken r b).now s).now; out = (taken r b).out ++ (fed (taken r b).now s).out }

-- bytes one after another while there is room for one more line; how many were taken in
abbrev pub max_printed : ℕ
max_printed = 52

pub record Fed : Type 0 where
  pub now : Reader
  pub out : List ℕ
  pub used : ℕ

abbrev pub followed : Printed Reader → Fed → Fed
followed p q = record { now = q.now; out = p.out ++ q.out; used = suc q.used }

unfoldable pub fed_within : ℕ → Reader → List ℕ → Fed
fed_within room r [] = record { now = r; out = []; used = 0 }
fed_within room r (b ∷ s) =
    if ltb room max_printed then record { now = r; out = []; used = 0 }
    else followed (taken r b) (fed_within (room - length (taken r b).out) (taken r b).now s)

-- at the end: a last line without its newline, and the end line
unfoldable pub ended : Stage → List ℕ
ended opening = refused_line BadLine
ended (running r) = end_line r.run.accepted r.run.holding r.run.system.most
ended closed = []

abbrev pub last_line : Reader → Printed Stage
last_line r = if eqb (length r.line) 0 then record { now = r.stage; out = [] } else worked r.stage r.line

unfoldable pub finished : Reader → List ℕ
finished r = (last_line r).out ++ ended (last_line r).now

abbrev pub empty : Reader
empty = record { stage = opening; line = [] }

-- Calls one after another on the same input: each has room for so many bytes and is given so many of those that are left.
pub record Call : Type 0 where
  pub room : ℕ
  pub given : ℕ

-- what they leave of the input
pub record Session : Type 0 where
  pub now : Reader
  pub out : List ℕ
  pub left : List ℕ

unfoldable pub session : Reader → List ℕ → List Call → Session
session r s [] = record { now = r; out = []; left = s }
session r s (c ∷ cs) =
    let q = fed_within c.room r (take c.given s) in
    let t = session q.now (drop q.used s) cs in
    record { now = t.now; out = q.out ++ t.out; left = t.left }
