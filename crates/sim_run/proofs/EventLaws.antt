-- An event of a run: the simulation's reply says which case of the run's step it is, and the counts follow the reply.
use Rattle.sim_changes.specs.declared.Effect.{Effect}
use Rattle.std.specs.Prelude.{Result}
use mathlib.Core.Path.{◌≡◌, sym, ap, ◌∙◌}
use Prim.Native.Nat.{ℕ}
use mathlib.Core.List.{List}
use mathlib.Core.Bool.{true}
use lib.ListN.{length}
use Rattle.ids.specs.declared.Refusal.{Refusal}
use Rattle.wire.specs.Step.{refused, stepped}
use Rattle.system.specs.declared.Setting.{Setting}
use Rattle.system.specs.declared.Event.{Event}
use Rattle.system.specs.Places.{System}
use Rattle.system.specs.Events.{EventOutcome}
use Rattle.system.specs.Runs.{after}
use Rattle.sim_layout.specs.Layout.{setting_of, view, valid}
use Rattle.sim_layout.proofs.ValidLaws as layout_laws
use Rattle.sim_changes.specs.Happens.{Leaves, happens, reply_of, reply_says}
use Rattle.simulation.proofs.Replies.{result_row}
use Rattle.sim_run.specs.declared.Counts.{Counts}
use Rattle.sim_run.specs.Run.{Run, moved}
use Rattle.sim_run.specs.Calls.{run_in, Goes}
use Rattle.sim_run.specs.Inner.{counted}

-- from the outcome to the run after it
outcome : (s : Setting) (u v : System) (o : EventOutcome) → v ≡ after u o → (c d : Counts) → d ≡ counted c (reply_of u o) →
    ◌≡◌ {A = Run} (record { setting = s; system = v; accepted = d.accepted; holding = d.holding })
    (moved (record { setting = s; system = u; accepted = c.accepted; holding = c.holding }) o)
unfolding moved counted reply_of after
outcome s u v (refused x) p c d q = rw (p, q)
outcome s u v (stepped t) p c d q = rw (p, q)

module _ (c : Counts) (w : List ℕ) (e : Event) (w' : List ℕ) (reply : Result Effect Refusal) (h : Leaves w e w' × (reply ≡ reply_of (view w) (happens w e))) where
  pub goes : (d : Counts) → d ≡ counted c reply → Goes c w e w' (record { counts = d; reply = reply })
  goes d q =
      let t : ◌≡◌ {A = Run} (run_in d w') (record { setting = setting_of w; system = view w'; accepted = d.accepted; holding = d.holding }) =
      λ i. record { setting = h.0.setting i; system = view w'; accepted = d.accepted; holding = d.holding } in
      record {
        run = t ∙ outcome (setting_of w) (view w) (view w') (happens w e) h.0.system c d (q ∙ ap (counted c) h.1);
        reply = h.1;
        said = ap reply_says h.1 ∙ result_row (view w) (happens w e);
        again = h.0.again;
        kept = h.0.kept;
      }

  pub event-same : valid w ≡ true → length w' ≡ length w
  event-same v = (layout_laws.facts w' h.0.again).long ∙ sym (layout_laws.facts w v).long
