-- The largest timestamp that a client has seen never falls, a message that it takes raises it to the message's, and a try takes one above it: so what a
-- client was told of at any time is below what it takes at any later try.
use Rattle.ids.specs.declared.Request.{Request}
use Rattle.std.specs.Prelude.{Some, Option}
use mathlib.Core.Path.{◌≡◌, refl, sym, ap, subst}
use Prim.Native.Nat.{ℕ, ◌≤◌, ◌<◌}
use native.Mathlib.Nat.{le_refl}
use native.Mathlib.Omega.{arith}
use mathlib.Core.Bool.{true, false≢true}
use mathlib.Core.List.{List, [], ◌∷◌}
use mathlib.Core.Logic.{inl}
use Rattle.ids.specs.declared.ClientId.{ClientId}
use Rattle.ids.specs.declared.ServerId.{ServerId}
use Rattle.ids.specs.declared.Timestamp.{Timestamp}
use Rattle.ids.proofs.OrderLaws.{earlier_before}
use Rattle.wire.specs.Format.{fields_of}
use Rattle.wire.specs.Step.{Step}
use Rattle.wire.specs.declared.Message.{Message}
use Rattle.wire.specs.declared.Message.TheVariants.{Request as REQUEST, Yield as YIELD, Release as RELEASE, Inquiry as INQUIRY, Response as RESPONSE, Check as CHECK}
use Rattle.client_responses.specs.Figure1.{State, Quorum, tries, exits, next as newer, told, responds, checked}
use Rattle.client_responses.proofs.ClockLaws.{responds_sees, checked_sees}
use Rattle.system.specs.declared.Event.{Event}
use Rattle.system.specs.declared.Event.TheVariants.{Try, Take}
use Rattle.system.specs.declared.MessageNumber.{MessageNumber}
use Rattle.system.specs.declared.Receiver.{Receiver}
use Rattle.system.specs.declared.Receiver.TheVariants.{Client, Server}
use Rattle.system.specs.Numbered.{at, put}
use Rattle.system.specs.Transit.{pending}
use Rattle.system.specs.Places.{System, ClientPlace, no_client, client_at}
use Rattle.system.specs.Events.{EventOutcome, deliver, event}
use Rattle.system.specs.Runs.{after, is_stepped, next, run_by, run_from}
use Rattle.system.specs.Index.{receiver_of}
use Rattle.system.specs.Clock as clock
use Rattle.system.proofs.Effects.{Effect, refuses, begins, leaves, dies, sinks, rises, server_takes, client_takes, client_checked, loses, suspects, asks, effect}
use Rattle.system.proofs.PlaceLaws.{each, put-flagged, counts-down}

-- a server is no client
no_client_lem : {A : Type 0} (j : ServerId) (k : ClientId) → ◌≡◌ {A = Receiver} (Server j) (Client k) → A
no_client_lem j k e = let z : ◌≡◌ {A = ℕ} 0 1 = cc in absurd (omega arith)

-- the largest timestamp that client k has seen
abbrev seen_by : System → ℕ → ℕ
seen_by w k = (at no_client w.clients k).state.seen.0

module _ (n : ℕ) (wins : Quorum) where
  module _ (w : System) where
    -- client k changes, and has seen no less
    changes : (k : ClientId) (c : ClientPlace) → (client_at w k).living ≡ true → seen_by w k.0 ≤ c.state.seen.0
        → (i : ℕ) → seen_by w i ≤ (at no_client (put w.clients k.0 c) i).state.seen.0
    changes k c lives more i =
        each (put-flagged no_client (λ x. x.living) refl w.clients k.0 c lives) (λ x. seen_by w i ≤ x.state.seen.0) i
        (λ e. rw e more) (λ _. le_refl _)

    kept : {e : Event} {o : EventOutcome} → Effect n wins w e o → (i : ℕ) → seen_by w i ≤ seen_by (after w o) i
    unfolding after tries exits
    kept refuses i = le_refl _
    kept (begins {k = k} lives _ _) i = changes k _ lives (le_refl _) i
    kept (leaves {k = k} lives _) i = changes k _ lives (le_refl _) i
    kept (dies {k = k} lives) i = changes k _ lives (le_refl _) i
    kept (sinks {j = j} up) i = omega (arith, ap (λ (c : State). c.seen.0) (counts-down j w.clients i).state)
    kept (rises there) i = le_refl _
    kept (server_takes tag k j t e up) i = le_refl _
    kept (client_takes {k = k} {j = j} {o = o} e lives) i =
        changes k _ lives (omega (arith, responds_sees n wins k j o (client_at w k).state)) i
    kept (client_checked {k = k} {j = j} {t = t} e lives) i =
        changes k _ lives (omega (arith, checked_sees n wins k j t (client_at w k).state)) i
    kept loses i = le_refl _
    kept (suspects up o gone) i = le_refl _
    kept (asks up) i = le_refl _

    -- a message that client k takes
    module _ (i : MessageNumber) (k : ClientId) (j : ServerId) (lives : (client_at w k).living ≡ true) where
      moved : (s : Step State)
          → (at no_client (put w.clients k.0 (record { living = true; state = s.state; downs = (client_at w k).downs })) k.0).state.seen.0
          ≡ s.state.seen.0
      moved s = ap (λ (c : ClientPlace). c.state.seen.0) (put-flagged no_client (λ x. x.living) refl w.clients k.0 _ lives).here

      response-seen : (o : Option Request) → pending i.0 w.transit ≡ Some (RESPONSE k j o) → (told o).0 ≤ seen_by (next n wins w (Take i)) k.0
      unfolding event deliver after
      response-seen o e = rw (e, lives) (omega (arith, moved (responds wins n k j o (client_at w k).state), responds_sees n wins k j o (client_at w k).state))

      check-seen : (t : Timestamp) → pending i.0 w.transit ≡ Some (CHECK k j t) → t.0 ≤ seen_by (next n wins w (Take i)) k.0
      unfolding event deliver after
      check-seen t e = rw (e, lives) (omega (arith, moved (checked k j t (client_at w k).state), checked_sees n wins k j t (client_at w k).state))

    sees : (i : MessageNumber) (m : Message) (k : ClientId) → pending i.0 w.transit ≡ Some m → receiver_of m ≡ Client k
        → (client_at w k).living ≡ true → (fields_of m).timestamp ≤ seen_by (next n wins w (Take i)) k.0
    unfolding fields_of
    sees i (RESPONSE a j o) k e to lives =
        let q : a ≡ k = cc in
        subst (λ (x : ClientId). (told o).0 ≤ seen_by (next n wins w (Take i)) x.0) q
        (response-seen i a j (subst (λ (x : ClientId). (client_at w x).living ≡ true) (sym q) lives) o e)
    sees i (CHECK a j t) k e to lives =
        let q : a ≡ k = cc in
        subst (λ (x : ClientId). t.0 ≤ seen_by (next n wins w (Take i)) x.0) q
        (check-seen i a j (subst (λ (x : ClientId). (client_at w x).living ≡ true) (sym q) lives) t e)
    sees i (REQUEST a j t) k e to lives = no_client_lem j k to
    sees i (YIELD a j t) k e to lives = no_client_lem j k to
    sees i (RELEASE a j t) k e to lives = no_client_lem j k to
    sees i (INQUIRY a j t) k e to lives = no_client_lem j k to

    -- the timestamp of a try
    tries-above : (k : ClientId) {o : EventOutcome} → Effect n wins w (Try k) o → is_stepped o ≡ true
        → seen_by w k.0 < (at no_client (after w o).clients k.0).state.timestamp.0
    unfolding after tries newer
    tries-above k refuses h = absurd (false≢true h)
    tries-above k (begins lives _ _) h =
        rw (put-flagged no_client (λ x. x.living) refl w.clients k.0 _ lives).here (omega arith)

  kept_on : (es : List Event) (w : System) (i : ℕ) → seen_by w i ≤ seen_by (run_from n wins w es) i
  unfolding run_by
  kept_on [] w i = le_refl _
  kept_on (e ∷ es) w i = omega (arith, kept w (effect n wins w e) i, kept_on es (next n wins w e) i)

  pub above-told : clock.AboveTold n wins
  unfolding run_by
  above-told w i m k es e to lives h =
      let u = run_from n wins (next n wins w (Take i)) es in
      omega (arith, sees w i m k e to lives, kept_on es (next n wins w (Take i)) k.0, tries-above u k (effect n wins u (Try k)) h)

  pub behind-heard : clock.BehindHeard n wins
  behind-heard w i m k r es e to lives le h = earlier_before r _ (inl (omega (arith, le, above-told w i m k es e to lives h)))
