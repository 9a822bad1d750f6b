-- The words of a script's state as three parts: a store changes one of them, and what the words are depends on the parts alone.
use mathlib.Core.Path.{◌≡◌, refl, sym, ap, ◌∙◌}
use Prim.Native.Nat.{ℕ, ◌+◌, ◌≤◌, ◌<◌}
use native.Mathlib.Omega.{arith}
use mathlib.Core.Bool.{Bool, true, ◌&&◌}
use mathlib.Core.List.{List}
use lib.Dec.{eqb, leb}
use lib.ListN.{length, get_or, set, take, drop, length-set, length-drop}
use lib.Seq.{sets, length-sets, length-take-le, get_or-set_same, get_or-set_other, get_or-take, take-set-lt, drop-set-lt, drop-set-add}
use borrow.Author.Tests.{eqb-true, eqb-false, eq-eqb, ne_eqb, leb-true, le-leb}
use Rattle.std.specs.Prelude.{if◌then◌else◌}
use Rattle.ids.specs.Lists.{every}
use Rattle.ids.proofs.Choice.{both, decided, Test}
use mathlib.Core.Logic.{inl, inr}
use Rattle.sim_blocks.proofs.RegionLaws.{region-inside, region-before, region-behind, take_sets_after}
use Rattle.sim_blocks.proofs.BlockParts.{covered}
use Rattle.sim_layout.specs.Layout as layout
use Rattle.system.specs.Limits.{system_clients}
use Rattle.system.specs.Places.{holders}
use Rattle.script_output.specs.Output.{max_lines}
use Rattle.script_output.specs.Reader.{max_kept}
use Rattle.script.specs.State.{stage_running, stage_closed, stage_at, answered_at, accepted_at, holding_at, length_at, line_from, state_size, Head, head_in, kept_in, simulation_in, stage_of, line_of, view, valid_run, valid_idle, byte_word, valid_line, valid_parts, valid, state_head}
use Rattle.sim_layout.specs.Layout.{simulation_size}

-- w is these parts
pub record Is (w : List ℕ) (h : Head) (l s : List ℕ) : Type 0 where
  pub long : length w ≡ state_size
  pub head : head_in w ≡ h
  pub kept : kept_in w ≡ l
  pub simulation : simulation_in w ≡ s

pub itself-is : (w : List ℕ) → length w ≡ state_size → Is w (head_in w) (kept_in w) (simulation_in w)
itself-is w h = record { long = h; head = refl; kept = refl; simulation = refl }

pub kept-long : (w : List ℕ) → length w ≡ state_size → length (kept_in w) ≡ max_kept
unfolding kept_in
kept-long w e = length-take-le max_kept (drop line_from w) (omega (arith, length-drop line_from w))

pub simulation_long : (w : List ℕ) → length w ≡ state_size → length (simulation_in w) ≡ simulation_size
unfolding simulation_in
simulation_long w e = length-take-le simulation_size (drop state_head w) (omega (arith, length-drop state_head w))

module _ {w : List ℕ} {h : Head} {l s : List ℕ} (p : Is w h l s) where
  pub view-is : view w ≡ record { stage = stage_of h s; line = line_of h l }
  unfolding view
  view-is = rw (p.head, p.kept, p.simulation)

  pub valid-is : valid w ≡ valid_parts h l s
  unfolding valid
  valid-is = rw (eq-eqb (length w) state_size p.long, p.head, p.kept, p.simulation)

  -- stores in the head leave the line and the simulation
  behind-kept : (i v : ℕ) → i < line_from → kept_in (set w i v) ≡ l
  unfolding kept_in
  behind-kept i v lt = ap (take max_kept) (drop-set-lt line_from w i v lt) ∙ p.kept

  behind_simulation : (i v : ℕ) → i < state_head → simulation_in (set w i v) ≡ s
  unfolding simulation_in
  behind_simulation i v lt = ap (take simulation_size) (drop-set-lt state_head w i v lt) ∙ p.simulation

  head-store : (i v : ℕ) (h' : Head) → i < line_from → head_in (set w i v) ≡ h' → Is (set w i v) h' l s
  head-store i v h' lt e = record { long = length-set w i v ∙ p.long; head = e; kept = behind-kept i v lt; simulation = behind_simulation i v (omega arith) }

  same : (i v : ℕ) → i < line_from → get_or (set w i v) i 0 ≡ v
  same i v lt = get_or-set_same w i v 0 (omega (arith, p.long))

  other : (i j v : ℕ) → (j ≡ i → ⊥) → get_or (set w i v) j 0 ≡ get_or w j 0
  other i j v ne = get_or-set_other w i j v 0 ne

  pub store-stage : (v : ℕ) → Is (set w stage_at v)
      (record { stage = v; answered = h.answered; accepted = h.accepted; holding = h.holding; length = h.length }) l s
  unfolding head_in
  store-stage v =
      head-store stage_at v _ (omega arith)
      (let e = p.head in
      let a = same stage_at v (omega arith) in
      let b = other stage_at answered_at v (λ x. omega arith) ∙ ap (λ (y : Head). y.answered) e in
      let c = other stage_at accepted_at v (λ x. omega arith) ∙ ap (λ (y : Head). y.accepted) e in
      let d = other stage_at holding_at v (λ x. omega arith) ∙ ap (λ (y : Head). y.holding) e in
      let f = other stage_at length_at v (λ x. omega arith) ∙ ap (λ (y : Head). y.length) e in
      λ i. record { stage = a i; answered = b i; accepted = c i; holding = d i; length = f i })

  pub store-answered : (v : ℕ)
      → Is (set w answered_at v) (record { stage = h.stage; answered = v; accepted = h.accepted; holding = h.holding; length = h.length }) l s
  unfolding head_in
  store-answered v =
      head-store answered_at v _ (omega arith)
      (let e = p.head in
      let a = other answered_at stage_at v (λ x. omega arith) ∙ ap (λ (y : Head). y.stage) e in
      let b = same answered_at v (omega arith) in
      let c = other answered_at accepted_at v (λ x. omega arith) ∙ ap (λ (y : Head). y.accepted) e in
      let d = other answered_at holding_at v (λ x. omega arith) ∙ ap (λ (y : Head). y.holding) e in
      let f = other answered_at length_at v (λ x. omega arith) ∙ ap (λ (y : Head). y.length) e in
      λ i. record { stage = a i; answered = b i; accepted = c i; holding = d i; length = f i })

  pub store-accepted : (v : ℕ)
      → Is (set w accepted_at v) (record { stage = h.stage; answered = h.answered; accepted = v; holding = h.holding; length = h.length }) l s
  unfolding head_in
  store-accepted v =
      head-store accepted_at v _ (omega arith)
      (let e = p.head in
      let a = other accepted_at stage_at v (λ x. omega arith) ∙ ap (λ (y : Head). y.stage) e in
      let b = other accepted_at answered_at v (λ x. omega arith) ∙ ap (λ (y : Head). y.answered) e in
      let c = same accepted_at v (omega arith) in
      let d = other accepted_at holding_at v (λ x. omega arith) ∙ ap (λ (y : Head). y.holding) e in
      let f = other accepted_at length_at v (λ x. omega arith) ∙ ap (λ (y : Head). y.length) e in
      λ i. record { stage = a i; answered = b i; accepted = c i; holding = d i; length = f i })

  pub store-holding : (v : ℕ)
      → Is (set w holding_at v) (record { stage = h.stage; answered = h.answered; accepted = h.accepted; holding = v; length = h.length }) l s
  unfolding head_in
  store-holding v =
      head-store holding_at v _ (omega arith)
      (let e = p.head in
      let a = other holding_at stage_at v (λ x. omega arith) ∙ ap (λ (y : Head). y.stage) e in
      let b = other holding_at answered_at v (λ x. omega arith) ∙ ap (λ (y : Head). y.answered) e in
      let c = other holding_at accepted_at v (λ x. omega arith) ∙ ap (λ (y : Head). y.accepted) e in
      let d = same holding_at v (omega arith) in
      let f = other holding_at length_at v (λ x. omega arith) ∙ ap (λ (y : Head). y.length) e in
      λ i. record { stage = a i; answered = b i; accepted = c i; holding = d i; length = f i })

  pub store_length : (v : ℕ)
      → Is (set w length_at v) (record { stage = h.stage; answered = h.answered; accepted = h.accepted; holding = h.holding; length = v }) l s
  unfolding head_in
  store_length v =
      head-store length_at v _ (omega arith)
      (let e = p.head in
      let a = other length_at stage_at v (λ x. omega arith) ∙ ap (λ (y : Head). y.stage) e in
      let b = other length_at answered_at v (λ x. omega arith) ∙ ap (λ (y : Head). y.answered) e in
      let c = other length_at accepted_at v (λ x. omega arith) ∙ ap (λ (y : Head). y.accepted) e in
      let d = other length_at holding_at v (λ x. omega arith) ∙ ap (λ (y : Head). y.holding) e in
      let f = same length_at v (omega arith) in
      λ i. record { stage = a i; answered = b i; accepted = c i; holding = d i; length = f i })

  -- a store in the line
  kept-head : (i v : ℕ) → head_in (set w (line_from + i) v) ≡ h
  unfolding head_in
  kept-head i v =
      let a = other (line_from + i) stage_at v (λ x. omega arith) in
      let b = other (line_from + i) answered_at v (λ x. omega arith) in
      let c = other (line_from + i) accepted_at v (λ x. omega arith) in
      let d = other (line_from + i) holding_at v (λ x. omega arith) in
      let f = other (line_from + i) length_at v (λ x. omega arith) in
      (λ i. record { stage = a i; answered = b i; accepted = c i; holding = d i; length = f i }) ∙ p.head

  kept-stored : (i v : ℕ) → i < max_kept → kept_in (set w (line_from + i) v) ≡ set l i v
  unfolding kept_in
  kept-stored i v lt =
      ap (take max_kept) (drop-set-add line_from w i v) ∙ (take-set-lt max_kept (drop line_from w) i v lt ∙ ap (λ (x : List ℕ). set x i v) p.kept)

  pub store_kept : (i v : ℕ) → i < max_kept → Is (set w (line_from + i) v) h (set l i v) s
  store_kept i v lt =
      record {
        long = length-set w (line_from + i) v ∙ p.long;
        head = kept-head i v;
        kept = kept-stored i v lt;
        simulation = behind_simulation
            (line_from + i) v (omega arith);
      }

  -- stores behind the head leave it
  head-behind : (from : ℕ) (v : List ℕ) → line_from ≤ from → head_in (sets w from v) ≡ h
  unfolding head_in
  head-behind from v later =
      let word : (i : ℕ) → i < line_from → get_or (sets w from v) i 0 ≡ get_or w i 0 = λ i lt.
      sym (get_or-take line_from (sets w from v) i 0 lt) ∙
      (ap (λ (x : List ℕ). get_or x i 0) (take_sets_after line_from w from v later) ∙ get_or-take line_from w i 0 lt) in
      let a = word stage_at (omega arith) in
      let b = word answered_at (omega arith) in
      let c = word accepted_at (omega arith) in
      let d = word holding_at (omega arith) in
      let f = word length_at (omega arith) in
      (λ i. record { stage = a i; answered = b i; accepted = c i; holding = d i; length = f i }) ∙ p.head

  -- several words of the line at once, from its first on
  front_kept : (v : List ℕ) → length v ≤ max_kept → kept_in (sets w line_from v) ≡ sets l 0 v
  unfolding kept_in
  front_kept v few = region-inside line_from max_kept w 0 v (omega (arith, few)) ∙ ap (λ (x : List ℕ). sets x 0 v) p.kept

  front_simulation : (v : List ℕ) → length v ≤ max_kept → simulation_in (sets w line_from v) ≡ s
  unfolding simulation_in
  front_simulation v few = region-before state_head simulation_size w line_from v (omega (arith, few)) ∙ p.simulation

  pub store-front : (v : List ℕ) → length v ≤ max_kept → Is (sets w line_from v) h (sets l 0 v) s
  store-front v few =
      record {
        long = length-sets w line_from v ∙ p.long;
        head = head-behind line_from v (omega arith);
        kept = front_kept v few;
        simulation = front_simulation v few;
      }

  -- the simulation, stored whole
  store_line : (v : List ℕ) → kept_in (sets w state_head v) ≡ l
  unfolding kept_in
  store_line v = region-behind line_from max_kept w 0 v ∙ p.kept

  store-all : (v : List ℕ) → length v ≡ simulation_size → simulation_in (sets w state_head v) ≡ v
  unfolding simulation_in
  store-all v e =
      region-inside state_head simulation_size w 0 v (omega arith) ∙ covered (take simulation_size (drop state_head w)) v
      (omega (arith, simulation_long w p.long))

  pub store_simulation : (v : List ℕ) → length v ≡ simulation_size → Is (sets w state_head v) h l v
  store_simulation v e =
      record { long = length-sets w state_head v ∙ p.long; head = head-behind state_head v (omega arith); kept = store_line v; simulation = store-all v e }

-- what a valid state says of its parts
pub record LineFacts (len : ℕ) (l : List ℕ) : Type 0 where
  pub few : len ≤ max_kept
  pub bytes : every byte_word l ≡ true
  pub behind : layout.blank (drop len l) ≡ true

pub record Facts (h : Head) (l s : List ℕ) : Type 0 where
  pub stage : h.stage ≤ stage_closed
  pub line : LineFacts h.length l
  pub runs : h.stage ≡ stage_running → valid_run h s ≡ true
  pub idles : (h.stage ≡ stage_running → ⊥) → valid_idle h s ≡ true

line-facts : (len : ℕ) (l : List ℕ) → valid_line len l ≡ true → LineFacts len l
unfolding valid_line
line-facts len l e =
    let (a, x) = both (leb len max_kept) (every byte_word l && layout.blank (drop len l)) e in
    let (b, c) = both (every byte_word l) (layout.blank (drop len l)) x in
    record { few = leb-true _ _ a; bytes = b; behind = c }

from-line : (len : ℕ) (l : List ℕ) → LineFacts len l → valid_line len l ≡ true
unfolding valid_line
from-line len l f = rw (le-leb len max_kept f.few, f.bytes, f.behind)

pub facts : (h : Head) (l s : List ℕ) → valid_parts h l s ≡ true → Facts h l s
unfolding valid_parts
facts h l s e =
    let rest : Bool = if eqb h.stage stage_running then valid_run h s else valid_idle h s in
    let (a, x) = both (leb h.stage stage_closed) (valid_line h.length l && rest) e in
    let (b, y) = both (valid_line h.length l) rest x in
    record {
      stage = leb-true _ _ a;
      line = line-facts h.length l b;
      runs = λ q. rw (eq-eqb h.stage stage_running q) at y;
      idles = λ q. rw (ne_eqb h.stage stage_running q) at y;
    }

pub from-facts : (h : Head) (l s : List ℕ) → Facts h l s → valid_parts h l s ≡ true
unfolding valid_parts
from-facts h l s f =
    rw (le-leb h.stage stage_closed f.stage, from-line h.length l f.line) (by_stage (decided (eqb h.stage stage_running)))
  where
    by_stage : Test (eqb h.stage stage_running) → (if eqb h.stage stage_running then valid_run h s else valid_idle h s) ≡ true
    by_stage (inl e) = rw e (f.runs (eqb-true h.stage stage_running e))
    by_stage (inr e) = rw e (f.idles (eqb-false h.stage stage_running e))

pub record RunFacts (h : Head) (s : List ℕ) : Type 0 where
  pub simulation : layout.valid s ≡ true
  pub answered : h.answered ≤ max_lines
  pub accepted : h.accepted ≤ h.answered
  pub holding : holders (layout.view s) ≤ h.holding
  pub few : h.holding ≤ system_clients

pub run-facts : (h : Head) (s : List ℕ) → valid_run h s ≡ true → RunFacts h s
unfolding valid_run
run-facts h s e =
    let (a, x) = both (layout.valid s)
    (leb h.answered max_lines && (leb h.accepted h.answered &&
    (leb (holders (layout.view s)) h.holding && leb h.holding system_clients))) e in
    let (b, y) = both (leb h.answered max_lines)
    (leb h.accepted h.answered && (leb (holders (layout.view s)) h.holding && leb h.holding system_clients)) x in
    let (c, z) = both (leb h.accepted h.answered) (leb (holders (layout.view s)) h.holding && leb h.holding system_clients) y in
    let (d, f) = both (leb (holders (layout.view s)) h.holding) (leb h.holding system_clients) z in
    record { simulation = a; answered = leb-true _ _ b; accepted = leb-true _ _ c; holding = leb-true _ _ d; few = leb-true _ _ f }

pub from-run : (h : Head) (s : List ℕ) → RunFacts h s → valid_run h s ≡ true
unfolding valid_run
from-run h s f =
    rw (
      f.simulation,
      le-leb h.answered max_lines f.answered,
      le-leb h.accepted h.answered f.accepted,
      le-leb (holders (layout.view s))
          h.holding f.holding,
      le-leb h.holding system_clients f.few,
    )
