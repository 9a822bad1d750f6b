-- From what the system's event gives to what the words are afterwards and what the call answers: a refused event, and one that sends nothing.
use Rattle.std.specs.Prelude.{Ok, Err}
use mathlib.Core.Path.{◌≡◌, refl, ◌∙◌}
use Prim.Native.Nat.{ℕ, ◌≤◌, max}
use native.Mathlib.Omega.{arith}
use mathlib.Core.Bool.{true}
use mathlib.Core.List.{List, []}
use Rattle.ids.specs.declared.Refusal.{Refusal}
use Rattle.ids.proofs.Choice.{clash}
use Rattle.wire.specs.Step.{Step, refused, stepped}
use Rattle.client_responses.specs.Figure1.{enough}
use Rattle.system.specs.declared.Event.{Event}
use Rattle.system.specs.Places.{System, worst}
use Rattle.system.specs.Events.{event, with_places}
use Rattle.system.specs.Runs.{after}
use Rattle.sim_layout.specs.Layout.{setting_of, view, valid}
use Rattle.sim_layout.proofs.ValidLaws.{facts}
use Rattle.sim_changes.specs.Happens.{happens, Leaves, moved_of}
use Rattle.sim_changes.specs.Changes.{Becomes}

pub view_noted : (w : List ℕ) → valid w ≡ true → worst (view w).clients ≤ (view w).most
unfolding view
view_noted w ok = (facts w ok).noted

-- of valid words the most is noted: a system with the old most is the one after the event
pub after_is : (w : List ℕ) (s : Step System) → s.state.most ≡ (view w).most → (w' : List ℕ) → Becomes w w' s.state → s.state ≡ after (view w) (stepped s)
unfolding after
after_is w s same w' B =
    let noted : worst s.state.clients ≤ s.state.most = rw B.system at (view_noted w' B.again) in
    let e : s.state.most ≡ max (view w).most (worst s.state.clients) = omega (arith, same, noted) in
    λ i. record { clients = s.state.clients; servers = s.state.servers; transit = s.state.transit; sent = s.state.sent; most = e i }

module _ (w : List ℕ) (e : Event) where
  pub leaves_refused : (x : Refusal) → valid w ≡ true → event (setting_of w).n (enough (setting_of w).m) (view w) e ≡ refused x
      → Leaves w e w × (Err x ≡ moved_of (happens w e))
  unfolding with_places after
  leaves_refused x ok h = (record { system = rw h; setting = refl; again = ok; kept = λ z. refl }, rw h)

  module _ (s : Step System) (none : s.sent ≡ []) (h : event (setting_of w).n (enough (setting_of w).m) (view w) e ≡ stepped s) where
    silent : happens w e ≡ stepped s
    unfolding with_places
    silent = rw (h, none)

    pub leaves_silent : (w' : List ℕ) → Becomes w w' (after (view w) (stepped s)) → Leaves w e w' × (Ok 0 ≡ moved_of (happens w e))
    leaves_silent w' B =
        (record { system = rw silent B.system; setting = B.setting; again = B.again; kept = λ z. clash true refl (rw silent at z) }, rw (silent, none))

    pub leaves_quiet : s.state.most ≡ (view w).most → (w' : List ℕ) → Becomes w w' s.state → Leaves w e w' × (Ok 0 ≡ moved_of (happens w e))
    leaves_quiet same w' B = leaves_silent w' (record { system = B.system ∙ after_is w s same w' B; setting = B.setting; again = B.again })
