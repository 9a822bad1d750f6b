-- The reader that valid words are determines every word: its stage and counts the head, its line the bytes and, behind them, zeros, and its run the
-- simulation, or zeros where none runs. So what `feed` and `finish` leave is told to the last word.
use Prim.Native.Nat.{ℕ, zero, suc, ◌≤◌, ◌<◌}
use native.Mathlib.Omega.{arith}
use mathlib.Core.Path.{◌≡◌, refl, sym, ap, ◌∙◌}
use mathlib.Core.Bool.{Bool, true, false, ◌&&◌}
use mathlib.Core.List.{List, ◌++◌}
use mathlib.Core.Logic.{⊎_elim}
use lib.Dec.{eqb}
use lib.ListN.{length, get_or, take, drop, length-drop, take-append-drop}
use lib.Seq.{drop-drop, length-take-le, get_or-take, ext_get_or, take_all}
use borrow.Author.Tests.{eqb-true, eqb-false}
use Rattle.ids.proofs.Choice.{both, decided}
use Rattle.sim_transit.proofs.Determined.{zeros-same}
use Rattle.sim_layout.specs.Layout as layout
use Rattle.sim_layout.proofs.Determined as simulation
use Rattle.script_output.specs.Reader.{Script, Stage, opening, running, closed, Reader, max_kept}
use Rattle.script.specs.State.{stage_opening, stage_running, stage_closed, line_from, state_head, state_size, Head, head_in, kept_in, simulation_in, script_in, stage_of, line_of, view, valid_idle, valid}
use Rattle.script.specs.Calls.{Leaves}
use Rattle.script.proofs.StateLaws.{kept-long, simulation_long, LineFacts, Facts, RunFacts, run-facts}
use Rattle.script.proofs.LineLaws.{known, sound}

-- the words are their parts
parts : (w : List ℕ) → length w ≡ state_size → take line_from w ++ (kept_in w ++ simulation_in w) ≡ w
unfolding kept_in simulation_in
parts w l =
    rw (
      take_all layout.simulation_size (drop state_head w) (omega (arith, length-drop state_head w)),
      ← drop-drop max_kept line_from w,
      take-append-drop max_kept (drop line_from w),
    ) (take-append-drop line_from w)

module _ (w w' : List ℕ) (e : head_in w ≡ head_in w') where
  head-words : (i : ℕ) → i < line_from → get_or w i 0 ≡ get_or w' i 0
  unfolding head_in
  head-words zero h = ap (λ (x : Head). x.stage) e
  head-words (suc zero) h = ap (λ (x : Head). x.answered) e
  head-words (suc (suc zero)) h = ap (λ (x : Head). x.accepted) e
  head-words (suc (suc (suc zero))) h = ap (λ (x : Head). x.holding) e
  head-words (suc (suc (suc (suc zero)))) h = ap (λ (x : Head). x.length) e
  head-words (suc (suc (suc (suc (suc i))))) h = absurd (omega arith)

  module _ (l : length w ≡ state_size) (l' : length w' ≡ state_size) where
    same-front : take line_from w ≡ take line_from w'
    same-front =
        let a = length-take-le line_from w (omega (arith, l)) in
        let b = length-take-le line_from w' (omega (arith, l')) in
        ext_get_or 0 (take line_from w) (take line_from w') (a ∙ sym b) (λ i h.
        let lt : i < line_from = omega (arith, a) in
        get_or-take line_from w i 0 lt ∙ (head-words i lt ∙ sym (get_or-take line_from w' i 0 lt)))

    same_parts : kept_in w ≡ kept_in w' → simulation_in w ≡ simulation_in w' → w ≡ w'
    same_parts k s = sym (parts w l) ∙ ((λ i. same-front i ++ (k i ++ s i)) ∙ parts w' l')

-- the line
module _ (l l' : List ℕ) (len len' : ℕ) (F : LineFacts len l) (F' : LineFacts len' l') (a : length l ≡ max_kept) (a' : length l' ≡ max_kept)
    (e : take len l ≡ take len' l') where
  same_length : len ≡ len'
  same_length =
      sym (length-take-le len l (omega (arith, F.few, a))) ∙ (ap length e ∙ length-take-le len' l' (omega (arith, F'.few, a')))

  same_kept : l ≡ l'
  same_kept =
      let n = same_length in
      let rest : drop len l ≡ drop len' l' =
      zeros-same (drop len l) (drop len' l') (omega (arith, n, a, a', length-drop len l, length-drop len' l')) F.behind F'.behind in
      sym (take-append-drop len l) ∙ ((λ i. e i ++ rest i) ∙ take-append-drop len' l')

-- the stage, as its number
tag : Stage → ℕ
tag opening = stage_opening
tag (running s) = stage_running
tag closed = stage_closed

module _ (h : Head) (s : List ℕ) where
  stage-running : h.stage ≡ stage_running → stage_of h s ≡ running (script_in h s)
  unfolding stage_of
  stage-running e = rw e refl

  stage_tag : h.stage ≤ stage_closed → tag (stage_of h s) ≡ h.stage
  unfolding stage_of tag
  stage_tag le =
      ⊎_elim
      (λ (a : eqb h.stage stage_opening ≡ true). rw a (sym (eqb-true h.stage stage_opening a)))
      (λ (a : eqb h.stage stage_opening ≡ false). ⊎_elim
      (λ (b : eqb h.stage stage_running ≡ true). rw (a, b) (sym (eqb-true h.stage stage_running b)))
      (λ (b : eqb h.stage stage_running ≡ false). rw (a, b) (omega (arith, eqb-false h.stage stage_opening a, eqb-false h.stage stage_running b)))
      (decided (eqb h.stage stage_running)))
      (decided (eqb h.stage stage_opening))

-- the rest of a head without a run is 0
record IdleFacts (h : Head) (s : List ℕ) : Type 0 where
  answered : h.answered ≡ 0
  accepted : h.accepted ≡ 0
  holding : h.holding ≡ 0
  simulation : layout.blank s ≡ true

idle-facts : (h : Head) (s : List ℕ) → valid_idle h s ≡ true → IdleFacts h s
unfolding valid_idle
idle-facts h s e =
    let (a, x) = both (eqb h.answered 0) (eqb h.accepted 0 && (eqb h.holding 0 && layout.blank s)) e in
    let (b, y) = both (eqb h.accepted 0) (eqb h.holding 0 && layout.blank s) x in
    let (c, z) = both (eqb h.holding 0) (layout.blank s) y in
    record { answered = eqb-true _ _ a; accepted = eqb-true _ _ b; holding = eqb-true _ _ c; simulation = z }

-- the counts and the simulation of two states with the same stage
record Same (h h' : Head) (s s' : List ℕ) : Type 0 where
  answered : h.answered ≡ h'.answered
  accepted : h.accepted ≡ h'.accepted
  holding : h.holding ≡ h'.holding
  simulation : s ≡ s'

module _ (h h' : Head) (s s' : List ℕ) (e : stage_of h s ≡ stage_of h' s') where
  same-run : h.stage ≡ stage_running → h'.stage ≡ stage_running → RunFacts h s → RunFacts h' s' → Same h h' s s'
  same-run r r' F F' =
      let both_run : running (script_in h s) ≡ running (script_in h' s') = sym (stage-running h s r) ∙ (e ∙ stage-running h' s' r') in
      let q : script_in h s ≡ script_in h' s' = cc in
      record {
        answered = ap (λ (x : Script). x.answered) q;
        accepted = ap (λ (x : Script). x.run.accepted) q;
        holding = ap (λ (x : Script). x.run.holding) q;
        simulation = simulation.same-words s s' F.simulation F'.simulation (ap (λ (x : Script). x.run.setting) q) (ap (λ (x : Script). x.run.system) q);
      }

  same-idle : length s ≡ length s' → IdleFacts h s → IdleFacts h' s' → Same h h' s s'
  same-idle l F F' =
      record {
        answered = F.answered ∙ sym F'.answered;
        accepted = F.accepted ∙ sym F'.accepted;
        holding = F.holding ∙ sym F'.holding;
        simulation = zeros-same s s' l F.simulation F'.simulation;
      }

module _ (w w' : List ℕ) (ok : valid w ≡ true) (ok' : valid w' ≡ true) (e : view w ≡ view w') where
  abbrev F : Facts (head_in w) (kept_in w) (simulation_in w)
  F = known w ok

  abbrev F' : Facts (head_in w') (kept_in w') (simulation_in w')
  F' = known w' ok'

  stages : stage_of (head_in w) (simulation_in w) ≡ stage_of (head_in w') (simulation_in w')
  unfolding view
  stages = ap (λ (r : Reader). r.stage) e

  lines : line_of (head_in w) (kept_in w) ≡ line_of (head_in w') (kept_in w')
  unfolding view
  lines = ap (λ (r : Reader). r.line) e

  same-stage : (head_in w).stage ≡ (head_in w').stage
  same-stage = sym (stage_tag (head_in w) (simulation_in w) F.stage) ∙ (ap tag stages ∙ stage_tag (head_in w') (simulation_in w') F'.stage)

  abbrev long : length w ≡ state_size
  long = (sound w ok).long

  abbrev long' : length w' ≡ state_size
  long' = (sound w' ok').long

  rest : Same (head_in w) (head_in w') (simulation_in w) (simulation_in w')
  rest =
      ⊎_elim
      (λ (b : eqb (head_in w).stage stage_running ≡ true).
      let r = eqb-true (head_in w).stage stage_running b in
      let r' = sym same-stage ∙ r in
      same-run (head_in w) (head_in w') (simulation_in w) (simulation_in w') stages r r' (run-facts _ _ (F.runs r)) (run-facts _ _ (F'.runs r')))
      (λ (b : eqb (head_in w).stage stage_running ≡ false).
      let n = eqb-false (head_in w).stage stage_running b in
      same-idle (head_in w) (head_in w') (simulation_in w) (simulation_in w') stages (simulation_long w long ∙ sym (simulation_long w' long'))
      (idle-facts _ _ (F.idles n)) (idle-facts _ _ (F'.idles (λ y. n (same-stage ∙ y)))))
      (decided (eqb (head_in w).stage stage_running))

  same_size : (head_in w).length ≡ (head_in w').length
  same_size = same_length (kept_in w) (kept_in w') _ _ F.line F'.line (kept-long w long) (kept-long w' long') lines

  same_head : head_in w ≡ head_in w'
  same_head =
      let s = rest in
      λ i. record { stage = same-stage i; answered = s.answered i; accepted = s.accepted i; holding = s.holding i; length = same_size i }

  pub same-words : w ≡ w'
  same-words =
      same_parts w w' same_head long long' (same_kept (kept_in w) (kept_in w') _ _ F.line F'.line (kept-long w long) (kept-long w' long') lines)
      rest.simulation

-- what a call may leave is one: state and buffer
pub leaves_one : (done : Bool) (r : Reader) (printed w out w₁ out₁ w₂ out₂ : List ℕ) → Leaves done r printed w out w₁ out₁ → Leaves done r printed w out w₂ out₂
    → (w₁ ≡ w₂) × (out₁ ≡ out₂)
leaves_one done r printed w out w₁ out₁ w₂ out₂ a b =
    ⊎_elim
    (λ (d : done ≡ true). (same-words w₁ w₂ (a.again d) (b.again d) (a.reader d ∙ sym (b.reader d)), a.bytes d ∙ sym (b.bytes d)))
    (λ (d : done ≡ false). ((a.kept d).0 ∙ sym (b.kept d).0, (a.kept d).1 ∙ sym (b.kept d).1))
    (decided done)
