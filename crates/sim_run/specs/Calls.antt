-- What the calls on a run give and leave: counts and a simulation's words are a run.
use Rattle.ids.specs.declared.Refusal.{Refusal}
use Rattle.std.specs.Prelude.{◌≡◌, ℕ, Bool, true, false, List, [], ◌∷◌, length, if◌then◌else◌, Ok, Err, Result}
use Rattle.ids.specs.Refusals.{code, Says, accepts, refuses}
use Rattle.ids.specs.declared.Refusal.TheVariants.{ParameterOutOfRange}
use Rattle.system.specs.declared.Setting.{Setting}
use Rattle.system.specs.declared.Event.{Event}
use Rattle.system.specs.Runs.{is_stepped}
use Rattle.sim_layout.specs.Layout.{setting_of, view, valid}
use Rattle.sim_changes.specs.Happens as bounded
use Rattle.simulation.specs.Opens.{opens}
use Rattle.sim_run.specs.declared.Counts.{Counts}
use Rattle.sim_run.specs.declared.Went.{Went}
use Rattle.sim_run.specs.Run.{Run, started, next}

-- the events that a count can say
abbrev pub max_accepted : ℕ
max_accepted = 4294967295

-- the run that counts and words are, and a run's counts
abbrev pub run_in : Counts → List ℕ → Run
run_in c w = record { setting = setting_of w; system = view w; accepted = c.accepted; holding = c.holding }

abbrev pub counts_of : Run → Counts
counts_of r = record { accepted = r.accepted; holding = r.holding }

-- a new run: 7 if it does not open
unfoldable pub new_answer : Bool → Setting → Result Counts Refusal
new_answer b s = if b then Ok (counts_of (started s)) else Err ParameterOutOfRange

-- the answer in document 01's numbers: the counts of a new run
abbrev pub begun_says : Result Counts Refusal → Says ℕ
begun_says (Err x) = refuses (code x)
begun_says (Ok c) = accepts (c.accepted ∷ c.holding ∷ [])

unfoldable pub start_says : Bool → Setting → Says ℕ
start_says b s = if b then accepts ((started s).accepted ∷ (started s).holding ∷ []) else refuses 7

pub record NewLeaves (s : Setting) (w w' : List ℕ) : Type 0 where
  pub run : opens (length w) s ≡ true → run_in (counts_of (started s)) w' ≡ started s
  pub again : opens (length w) s ≡ true → valid w' ≡ true
  pub kept : opens (length w) s ≡ false → w' ≡ w

-- an event of a run whose words are valid
pub record Goes (c : Counts) (w : List ℕ) (e : Event) (w' : List ℕ) (r : Went) : Type 0 where
  pub run : run_in r.counts w' ≡ next (run_in c w) e
  pub reply : r.reply ≡ bounded.reply_of (view w) (bounded.happens w e)
  pub said : bounded.reply_says r.reply ≡ bounded.result_says (view w) (bounded.happens w e)
  pub again : valid w' ≡ true
  pub kept : is_stepped (bounded.happens w e) ≡ false → w' ≡ w
