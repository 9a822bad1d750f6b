-- A new run: a simulation opens as its setting is in range, and nobody is in the critical section at the start.
use Rattle.sim_run.specs.declared.Counts.{Counts}
use Rattle.std.specs.Prelude.{Ok, Err, Result}
use mathlib.Core.Path.{◌≡◌, refl, sym, ap, ◌∙◌}
use Prim.Native.Nat.{ℕ, zero, suc}
use native.Mathlib.Omega.{arith}
use mathlib.Core.Bool.{Bool, true, false}
use mathlib.Core.List.{List, [], map}
use lib.Dec.{eqb}
use lib.ListN.{length, replicate}
use borrow.Author.Tests.{eqb-true}
use Rattle.ids.specs.declared.Refusal.{Refusal}
use Rattle.ids.specs.declared.Refusal.TheVariants.{ParameterOutOfRange}
use Rattle.ids.proofs.Choice.{both}
use Rattle.client_responses.specs.Figure1.{count, fresh as fresh_client}
use Rattle.system.specs.declared.Setting.{Setting}
use Rattle.system.specs.Places.{is_inside, holders}
use Rattle.system.specs.Runs.{start}
use Rattle.sim_layout.specs.Layout.{simulation_size}
use Rattle.sim_layout.proofs.ValidLaws as layout_laws
use Rattle.simulation.specs.Opens as simulation
use Rattle.sim_run.specs.Run.{fresh}
use Rattle.sim_run.specs.Calls.{new_answer, begun_says, start_says, NewLeaves}

none_inside : (n c : ℕ) → count (map is_inside (replicate c (record { living = true; state = fresh_client n; downs = [] }))) ≡ 0
none_inside n zero = refl
none_inside n (suc c) = omega (arith, none_inside n c)

pub no_holders : (s : Setting) → holders (fresh s) ≡ 0
unfolding start
no_holders s = none_inside s.n s.clients

-- what `simulation::new` answered, turned round
made_refused : (b : Bool) (x : Refusal) → Err x ≡ simulation.new_reply b → (b ≡ false) × (x ≡ ParameterOutOfRange)
unfolding simulation.new_reply
made_refused true x e = let z : ◌≡◌ {A = ℕ} 0 1 = cc in absurd (omega arith)
made_refused false x e = (refl, (cc))

made_new : (b : Bool) (i : ℕ) → Ok i ≡ simulation.new_reply b → b ≡ true
unfolding simulation.new_reply
made_new true i e = refl
made_new false i e = let z : ◌≡◌ {A = ℕ} 0 1 = cc in absurd (omega arith)

opens-long : (s : Setting) (l : ℕ) → simulation.opens l s ≡ true → l ≡ simulation_size
unfolding simulation.opens
opens-long s l e = eqb-true l simulation_size (both (eqb l simulation_size) (simulation.in_range s) e).0

module _ (s : Setting) (w w' : List ℕ) (r : Result ℕ Refusal) (h : simulation.NewLeaves s w w' × (r ≡ simulation.new_reply (simulation.opens (length w) s))) where
  abbrev Opens : Bool
  Opens = simulation.opens (length w) s

  leaves : NewLeaves s w w'
  leaves =
      record {
        run = λ o. let S = h.0.starts o in λ i. record { setting = S.setting i; system = S.system i; accepted = 0; holding = holders (fresh s) };
        again = λ o. (h.0.starts o).again;
        kept = h.0.kept;
      }

  module _ (x : Refusal) (e : r ≡ Err x) where
    pub new_refused : NewLeaves s w w' × (Err x ≡ new_answer (simulation.opens (length w) s) s)
    unfolding new_answer
    new_refused = let q = made_refused Opens x (sym e ∙ h.1) in (leaves, rw (q.0, q.1))

    pub refused-same : length w' ≡ length w
    refused-same = ap length (h.0.kept (made_refused Opens x (sym e ∙ h.1)).0)

  module _ (i : ℕ) (e : r ≡ Ok i) where
    pub new_run : NewLeaves s w w' × (Ok (record { accepted = 0; holding = 0 }) ≡ new_answer (simulation.opens (length w) s) s)
    unfolding new_answer
    new_run = (leaves, rw (made_new Opens i (sym e ∙ h.1), no_holders s))

    pub run-same : length w' ≡ length w
    run-same = let o = made_new Opens i (sym e ∙ h.1) in (layout_laws.facts w' (h.0.starts o).again).long ∙ sym (opens-long s (length w) o)

-- the same in document 01's numbers
start-row : (b : Bool) (s : Setting) → begun_says (new_answer b s) ≡ start_says b s
unfolding new_answer start_says
start-row true s = refl
start-row false s = refl

pub new_said : (s : Setting) (w w' : List ℕ) (r : Result Counts Refusal) → NewLeaves s w w' × (r ≡ new_answer (simulation.opens (length w) s) s)
    → (NewLeaves s w w' × (r ≡ new_answer (simulation.opens (length w) s) s)) × (begun_says r ≡ start_says (simulation.opens (length w) s) s)
new_said s w w' r h = (h, ap begun_says h.1 ∙ start-row (simulation.opens (length w) s) s)
