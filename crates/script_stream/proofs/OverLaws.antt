-- A stage is spent if a line changes nothing of it and prints nothing: after the first line was refused, and after the last event line
-- that is read. Whatever comes then prints nothing, and the end is the same. Any other stage answers the next newline.
use mathlib.Core.Path.{◌≡◌, refl, sym, ap, ◌∙◌}
use Prim.Native.Nat.{ℕ, suc, ◌≤◌, ◌<◌}
use native.Mathlib.Omega.{arith}
use mathlib.Core.Bool.{Bool, true, false, false≢true}
use mathlib.Core.List.{List, [], ◌∷◌, append-nil}
use mathlib.Core.Logic.{inl, inr}
use lib.Dec.{eqb, leb}
use lib.ListN.{length, get_or, length-append}
use borrow.Author.Tests.{le-ltb, lt-ltb, leb-true, leb-false}
use Rattle.ids.specs.Choice.{maybe}
use Rattle.std.specs.Prelude.{if◌then◌else◌, Some, None, Option}
use Rattle.ids.specs.Refusals.{code}
use Rattle.ids.specs.declared.Refusal.{Refusal}
use Rattle.ids.specs.declared.Refusal.TheVariants.{BadLine, ParameterOutOfRange}
use Rattle.wire.specs.Step.{refused, stepped}
use Rattle.system.specs.declared.Event.{Event}
use Rattle.system.specs.declared.Setting.{Setting}
use Rattle.system.specs.Places.{System}
use Rattle.system.specs.Events.{EventOutcome}
use Rattle.simulation.specs.Opens.{in_range}
use Rattle.sim_run.specs.Run.{happens, next}
use Rattle.ids.proofs.Choice.{decided, Test}
use Rattle.script_lines.specs.Words.{text, newline, spaced}
use Rattle.script_numbers.specs.Decimals.{decimal}
use Rattle.script_lines.specs.Lines.{event_in, setting_in}
use Rattle.script_lines.specs.Printed.{printed, four_words, header_line, ok_line, no_line, refused_line}
use Rattle.script_output.specs.Output.{max_lines, answer_line}
use Rattle.script_output.specs.Reader.{Script, Stage, opening, running, closed, Reader, Printed, opened, onward, line_taken, worked, taken, fed, ended, finished}
use Rattle.script.specs.State.{stage_at, answered_at, stage_opening, stage_running, stage_closed, head_in, stage_of, view, valid}
use Rattle.script.proofs.LineLaws.{known}
use Rattle.script_stream.specs.Over.{spent, Over}

abbrev Spent : Stage → Type 0
Spent t = (l : List ℕ) → worked t l ≡ record { now = t; out = [] }

closed-spent : Spent closed
unfolding worked
closed-spent l = refl

running-spent : (r : Script) → max_lines ≤ r.answered → Spent (running r)
unfolding worked line_taken
running-spent r h l = rw (le-ltb r.answered max_lines h)

module _ (t : Stage) (p : Spent t) where
  -- one byte
  taken_on : (r : Reader) (b : ℕ) → r.stage ≡ t → ((taken r b).out ≡ []) × ((taken r b).now.stage ≡ t)
  unfolding taken
  taken_on r b q = by_byte (decided (eqb b newline))
    where
      by_byte : Test (eqb b newline) → ((taken r b).out ≡ []) × ((taken r b).now.stage ≡ t)
      by_byte (inl e) = rw (e, q, p r.line) (refl, refl)
      by_byte (inr e) = rw e (refl, q)

  -- any bytes
  fed_on : (s : List ℕ) (r : Reader) → r.stage ≡ t → ((fed r s).out ≡ []) × ((fed r s).now.stage ≡ t)
  unfolding fed
  fed_on [] r e = (refl, e)
  fed_on (b ∷ s) r e =
      let o = taken_on r b e in
      let n = fed_on s (taken r b).now o.1 in
      (rw o.0 n.0, n.1)

  -- the end does not hang on the line
  ended_on : (r : Reader) → r.stage ≡ t → finished r ≡ ended t
  unfolding finished
  ended_on r e = by_line (decided (eqb (length r.line) 0))
    where
      by_line : Test (eqb (length r.line) 0) → finished r ≡ ended t
      by_line (inl q) = rw (q, e)
      by_line (inr q) = rw (q, e, p r.line)

  over_on : (r : Reader) → r.stage ≡ t → Over r
  over_on r e = record { silent = λ s. (fed_on s r e).0; same = λ s. ended_on (fed r s).now (fed_on s r e).1 ∙ sym (ended_on r e) }

-- the test means `Over`
pub spent_over : (r : Reader) → spent r.stage ≡ true → Over r
spent_over r e = by_stage r.stage refl e
  where
    by_stage : (t : Stage) → r.stage ≡ t → spent t ≡ true → Over r
    by_stage opening q h = absurd (false≢true h)
    by_stage (running x) q h = over_on (running x) (running-spent x (leb-true max_lines x.answered h)) r q
    by_stage closed q h = over_on closed closed-spent r q

-- and nothing less does: a stage that is not spent answers the next newline
printed_some : (ws : List (List ℕ)) → printed ws ≡ [] → ⊥
printed_some ws e = omega (arith, ap length e, length-append (spaced ws) (newline ∷ []))

header_some : (s : Setting) → header_line s ≡ [] → ⊥
unfolding header_line
header_some s e = printed_some (text "gallery" ∷ four_words s) e

refused_some : (x : Refusal) → refused_line x ≡ [] → ⊥
unfolding refused_line
refused_some x e = printed_some (text "no" ∷ decimal (code x) ∷ []) e

no_some : (i : ℕ) (x : Refusal) → no_line i x ≡ [] → ⊥
unfolding no_line
no_some i x e = printed_some (decimal i ∷ text "no" ∷ decimal (code x) ∷ []) e

ok_some : (i sent k : ℕ) → ok_line i sent k ≡ [] → ⊥
unfolding ok_line
ok_some i sent k e = printed_some (decimal i ∷ text "ok" ∷ decimal sent ∷ decimal k ∷ []) e

-- each stage that is not spent prints one of these
Speaks : {A : Type 0} → Printed A → Type 0
Speaks p = p.out ≡ [] → ⊥

either_speaks : {A : Type 0} (b : Bool) (p q : Printed A) → Speaks p → Speaks q → Speaks (if b then p else q)
unfolding Speaks
either_speaks true p q f g = f
either_speaks false p q f g = g

opened_speaks : (o : Option Setting) → Speaks (opened o)
unfolding Speaks opened
opened_speaks None = refused_some BadLine
opened_speaks (Some s) = either_speaks (in_range s) _ _ (header_some s) (refused_some ParameterOutOfRange)

answer_some : (i : ℕ) (w : System) (o : EventOutcome) → answer_line i w o ≡ [] → ⊥
unfolding answer_line
answer_some i w (refused x) = no_some i x
answer_some i w (stepped s) = ok_some i _ _

line_speaks : (r : Script) (l : List ℕ) → r.answered < max_lines → Speaks (line_taken r l)
unfolding Speaks line_taken
line_speaks r l h = rw (lt-ltb r.answered max_lines h) (by_event (event_in l))
  where
    by_event : (o : Option Event) → Speaks (maybe {B = Printed Script} o (record { now = onward r r.run; out = no_line (suc r.answered) BadLine })
        (λ e. record {
          now = onward r (next r.run e);
          out = answer_line (suc r.answered) r.run.system (happens r.run.setting r.run.system e);
        }))
    by_event None = no_some (suc r.answered) BadLine
    by_event (Some e) = answer_some (suc r.answered) r.run.system (happens r.run.setting r.run.system e)

stage_speaks : (t : Stage) (l : List ℕ) → spent t ≡ false → Speaks (worked t l)
unfolding Speaks worked
stage_speaks opening l h = opened_speaks (setting_in l)
stage_speaks (running r) l h = line_speaks r l (leb-false max_lines r.answered h)
stage_speaks closed l h = absurd (false≢true (sym h))

newline-out : (r : Reader) → (fed r (newline ∷ [])).out ≡ (worked r.stage r.line).out
unfolding fed taken
newline-out r = append-nil (worked r.stage r.line).out

pub over_spent : (r : Reader) → Over r → spent r.stage ≡ true
unfolding Speaks
over_spent r o = by_test (decided (spent r.stage))
  where
    by_test : Test (spent r.stage) → spent r.stage ≡ true
    by_test (inl e) = e
    by_test (inr e) = absurd (stage_speaks r.stage r.line e (sym (newline-out r) ∙ o.silent (newline ∷ [])))

-- reading goes on where the test fails
pub read_on : {F S P : Type 0} (x y : Bool) → x ≡ y → x ≡ false → F × S → F × S × (y ≡ true → P)
read_on x y e f g = (g.0, g.1, λ z. absurd (false≢true (sym f ∙ (e ∙ z))))

-- the stage's word and the lines answered
module _ (w : List ℕ) where
  pub word-closed : get_or w stage_at 0 ≡ stage_closed → true ≡ spent (view w).stage
  unfolding view stage_of head_in
  word-closed e = rw e

  pub word-opening : get_or w stage_at 0 ≡ stage_opening → false ≡ spent (view w).stage
  unfolding view stage_of head_in
  word-opening e = rw e

  pub word-running : valid w ≡ true → (get_or w stage_at 0 ≡ stage_closed → ⊥) → (get_or w stage_at 0 ≡ stage_opening → ⊥)
      → leb max_lines (get_or w answered_at 0) ≡ spent (view w).stage
  unfolding view stage_of head_in
  word-running v a b =
      let e : get_or w stage_at 0 ≡ stage_running = omega (arith, a, b, (known w v).stage) in
      rw e
