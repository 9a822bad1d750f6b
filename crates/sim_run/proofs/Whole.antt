-- The counts that a run keeps are those of its events: event by event, and the most so far is never below the holders of now.
use mathlib.Core.Path.{◌≡◌, refl, ◌∙◌}
use Prim.Native.Nat.{ℕ, ◌+◌, ◌≤◌, max}
use native.Mathlib.Omega.{arith}
use mathlib.Core.List.{List, [], ◌∷◌}
use Rattle.std.specs.Prelude.{if◌then◌else◌}
use Rattle.wire.specs.Step.{refused, stepped}
use Rattle.client_responses.specs.Figure1.{enough}
use Rattle.system.specs.Limits.{system_messages, last_number}
use Rattle.system.specs.declared.Setting.{Setting}
use Rattle.system.specs.declared.Event.{Event}
use Rattle.system.specs.Places.{System, holders}
use Rattle.system.specs.Events.{EventOutcome}
use Rattle.system.specs.Runs.{after, is_stepped, run_by, accepted_events, most_holders}
use Rattle.system.specs.Downs.{most_down}
use Rattle.system.proofs.Downs.{most-down, places-follow}
use Rattle.sim_run.specs.Run.{Run, fresh, started, happens, moved, next, plays}

-- the run after the events, by the counts of the whole list
abbrev pub ahead : Run → List Event → Run
ahead r es =
    record {
      setting = r.setting;
      system = run_by (happens r.setting) r.system es;
      accepted = r.accepted + accepted_events (happens r.setting) r.system es;
      holding = max r.holding (most_holders (happens r.setting) r.system es);
    }

pub most-least : (s : Setting) (w : System) (es : List Event) → holders w ≤ most_holders (happens s) w es
unfolding most_holders
most-least s w [] = omega arith
most-least s w (e ∷ es) = omega arith

-- one event, which gave o
module _ (r : Run) where
  pub moved-setting : (o : EventOutcome) → (moved r o).setting ≡ r.setting
  unfolding moved
  moved-setting (refused x) = refl
  moved-setting (stepped t) = refl

  pub moved-system : (o : EventOutcome) → (moved r o).system ≡ after r.system o
  unfolding moved after
  moved-system (refused x) = refl
  moved-system (stepped t) = refl

  pub moved-accepted : (o : EventOutcome) → (moved r o).accepted ≡ r.accepted + (if is_stepped o then 1 else 0)
  unfolding moved
  moved-accepted (refused x) = omega arith
  moved-accepted (stepped t) = refl

  module _ (h : holders r.system ≤ r.holding) where
    pub moved-holding : (o : EventOutcome) → (moved r o).holding ≡ max r.holding (holders (after r.system o))
    unfolding moved after
    moved-holding (refused x) = omega (arith, h)
    moved-holding (stepped t) = refl

    by_counts : (e : Event) (es : List Event) → ahead (next r e) es ≡ ahead r (e ∷ es)
    unfolding accepted_events most_holders run_by
    by_counts e es =
        let o : EventOutcome = happens r.setting r.system e in
        let w : System = after r.system o in
        let b : ℕ = if is_stepped o then 1 else 0 in
        let n : ℕ = accepted_events (happens r.setting) w es in
        let k : ℕ = most_holders (happens r.setting) w es in
        let x : r.accepted + b + n ≡ r.accepted + (b + n) = omega arith in
        let y : max (max r.holding (holders w)) k ≡ max r.holding (max (holders r.system) k) = omega (arith, h, most-least r.setting w es) in
        rw (
          moved-setting o,
          moved-system o,
          moved-accepted o,
          moved-holding o,
        ) (λ i. record { setting = r.setting; system = run_by (happens r.setting) w es; accepted = x i; holding = y i })

pub plays-ahead : (es : List Event) (r : Run) → holders r.system ≤ r.holding → plays r es ≡ ahead r es
unfolding plays accepted_events most_holders run_by
plays-ahead [] r h =
    let x : r.accepted ≡ r.accepted + 0 = omega arith in
    let y : r.holding ≡ max r.holding (holders r.system) = omega (arith, h) in
    λ i. record { setting = r.setting; system = r.system; accepted = x i; holding = y i }
plays-ahead (e ∷ es) r h =
    let o : EventOutcome = happens r.setting r.system e in
    let k : holders (next r e).system ≤ (next r e).holding = rw (moved-system r o, moved-holding r h o) (omega arith) in
    plays-ahead es (next r e) k ∙ by_counts r h e es

-- The whole run of a setting: the events accepted, and the most living holders at once.
pub plays-counted : (s : Setting) (es : List Event) → plays (started s) es ≡ record {
  setting = s;
  system = run_by (happens s) (fresh s) es;
  accepted = accepted_events (happens s) (fresh s) es;
  holding = most_holders (happens s) (fresh s) es;
}
plays-counted s es =
    let y : max (holders (fresh s)) (most_holders (happens s) (fresh s) es) ≡ most_holders (happens s) (fresh s) es = omega (arith, most-least s (fresh s) es) in
    let x : 0 + accepted_events (happens s) (fresh s) es ≡ accepted_events (happens s) (fresh s) es = omega arith in
    plays-ahead es (started s) (omega arith) ∙ (λ i. record { setting = s; system = run_by (happens s) (fresh s) es; accepted = x i; holding = y i })

-- and the most different servers ever down within one epoch
pub happens_most_down : (s : Setting) (es : List Event) → (run_by (happens s) (fresh s) es).most ≡ most_down (happens s) (fresh s) es
happens_most_down s = most-down s.n (enough s.m) (happens s) (places-follow s.n (enough s.m) system_messages last_number) s.clients
