-- Servers that are down and stay down answer nobody: no RESPONSE of theirs is in transit, and no own response of theirs is kept.
use Rattle.std.specs.Prelude.{Some, None, Option}
use mathlib.Core.Path.{◌≡◌, refl, sym, ◌∙◌}
use Prim.Native.Nat.{ℕ}
use native.Mathlib.Omega.{arith}
use mathlib.Core.Bool.{true, false, true≢false}
use mathlib.Core.List.{List, [], ◌∷◌}
use borrow.Author.Tests.{ne_eqb}
use Rattle.ids.specs.declared.ClientId.{ClientId}
use Rattle.ids.specs.declared.ServerId.{ServerId}
use Rattle.ids.specs.declared.Timestamp.{Timestamp}
use Rattle.ids.specs.declared.Request.{Request}
use Rattle.wire.specs.Step.{Step, refused, stepped}
use Rattle.wire.specs.declared.Message.{Message}
use Rattle.wire.specs.declared.Message.TheVariants.{Request as REQUEST, Yield as YIELD, Release as RELEASE, Inquiry as INQUIRY, Response as RESPONSE, Check as CHECK}
use Rattle.server_votes.specs.Figure1.{State as ServerState}
use Rattle.client_responses.specs.Figure1.{State as ClientState, next as newer, taken, Quorum, tries, exits, is_remainder, request}
use Rattle.system.specs.declared.Event.{Event}
use Rattle.system.specs.declared.Event.TheVariants.{Try, Exit, Fall, Down, Up, Take, Drop, Miss, Check}
use Rattle.system.specs.Numbered.{at, member, client_no, server_no}
use Rattle.system.specs.Transit.{InTransit, pending, replaced, gone}
use Rattle.system.specs.Places.{System, no_client, no_server, client_at, server_at}
use Rattle.system.specs.Events.{EventOutcome, client_moves, server_moves, event}
use Rattle.system.specs.Runs.{run_by, after, run_from}
use Rattle.system.proofs.Effects.{Effect, refuses, begins, leaves, dies, sinks, rises, server_takes, client_takes, client_checked, loses, suspects, asks, effect}
use Rattle.ids.proofs.Choice.{clash}
use Rattle.system.proofs.Tokens.{All, empty, more, all_map}
use Rattle.system.proofs.ServerSteps.{Named, Holds, From, fair_receive, fair_suspect, fair_check}
use Rattle.system.proofs.ClientSteps.{next_greater, shows, By, Calm, by_all, shows-none, calm_respond, calm_checked}
use Rattle.system.proofs.TransitLaws.{Posted, Delivery, posted, unchanged, stills_gone, stills_keeping, delivery_delivered, delivery_dropped, pending-all, again-all}
use Rattle.system.proofs.PlaceLaws.{each, put-flagged, put-numbered, counts-down}
use Rattle.system.proofs.Sound.{id, last, Past}
use Rattle.system.proofs.Invariant.{Inv, inv_event}
use Rattle.system.proofs.Restarts.{absent}

module _ (d : List ℕ) where
  -- no RESPONSE of a server of d
  abbrev pub Unsaid : Message → Type 0
  Unsaid (REQUEST k j t) = Unit
  Unsaid (YIELD k j t) = Unit
  Unsaid (RELEASE k j t) = Unit
  Unsaid (INQUIRY k j t) = Unit
  Unsaid (RESPONSE k j o) = member j.0 d ≡ false
  Unsaid (CHECK k j t) = Unit

  -- no own response of a server of d
  abbrev pub Blank : ClientId → ClientState → Type 0
  Blank k c = (j : ℕ) → member j d ≡ true → is_remainder c.section ≡ false → shows (request k c) c.responses j ≡ 0

  pub record Silent (w : System) : Type 0 where
    pub down : (j : ℕ) → member j d ≡ true → (server_at w (server_no j)).up ≡ false
    pub mail : All (Posted Unsaid) w.transit
    pub blank : (k : ℕ) → Blank (id k) (client_at w (client_no k)).state

  -- the event is no `up` of theirs
  abbrev pub Stays : Event → Type 0
  Stays (Try k) = Unit
  Stays (Exit k) = Unit
  Stays (Fall k) = Unit
  Stays (Down j) = Unit
  Stays (Up j) = member j.0 d ≡ false
  Stays (Take i) = Unit
  Stays (Drop i) = Unit
  Stays (Miss j) = Unit
  Stays (Check j) = Unit

  by_unsaid : (k : ClientId) (t : ℕ) (m : Message) → By k t m → Unsaid m
  by_unsaid k t (REQUEST i j s) h = tt
  by_unsaid k t (YIELD i j s) h = tt
  by_unsaid k t (RELEASE i j s) h = tt
  by_unsaid k t (INQUIRY i j s) h = tt
  by_unsaid k t (RESPONSE i j o) h = absurd h
  by_unsaid k t (CHECK i j s) h = tt

  from_unsaid : (P : Request → Type 0) (j : ServerId) → member j.0 d ≡ false → (m : Message) → From P j m → Unsaid m
  from_unsaid P j out (REQUEST i a s) h = tt
  from_unsaid P j out (YIELD i a s) h = tt
  from_unsaid P j out (RELEASE i a s) h = tt
  from_unsaid P j out (INQUIRY i a s) h = tt
  from_unsaid P j out (RESPONSE i a o) h = rw h.0 out
  from_unsaid P j out (CHECK i a s) h = tt

-- nothing is asked of the requests
abbrev Any : Request → Type 0
Any r = Unit

abbrev Never : Request → Type 0
Never r = ⊥

any_line : (l : List Request) → All Any l
any_line [] = empty
any_line (r ∷ l) = more {x = r} tt (any_line l)

any_named : (o : Option Request) → Named Any o
any_named None = tt
any_named (Some r) = tt

any_server : (q : ServerState) → Holds Any q
any_server q = record { owner = any_named q.owner; queue = any_line q.queue }

module _ (n : ℕ) (wins : Quorum) (d : List ℕ) where
  abbrev Good : EventOutcome → Type 0
  Good (refused x) = Unit
  Good (stepped v) = Silent d v.state

  keeps : {w : System} → Silent d w → (o : EventOutcome) → Good o → Silent d (after w o)
  unfolding after
  keeps s (refused x) g = s
  keeps s (stepped v) g = record { down = g.down; mail = g.mail; blank = g.blank }

  module _ (w : System) (s : Silent d w) where
    -- a server that is up is not in d
    awake : (j : ℕ) → (server_at w (server_no j)).up ≡ true → member j d ≡ false
    awake j up = absent j d (λ e. clash (server_at w (server_no j)).up up (s.down j e))

    silent-client : (k : ClientId) {l : List InTransit} {gain : Request → ℕ → ℕ} (ds : List ℕ) (step : Step ClientState)
        → (client_at w k).living ≡ true → Delivery gain w.transit [] l →
        All (Unsaid d) step.sent → Blank d k step.state → Silent d (client_moves w k l ds step).state
    silent-client k ds step lives del sent new =
        record {
          down = s.down;
          mail = (posted w.sent del).arrive (Unsaid d) s.mail sent;
          blank = λ i. each (put-flagged no_client (λ c. c.living) refl w.clients k.0 _ lives) (λ c. Blank d (id i) c.state) i
              (λ e. rw e new) (λ _. s.blank i);
        }

    silent-server : (j : ServerId) {l : List InTransit} {gain : Request → ℕ → ℕ} (step : Step ServerState) → (server_at w j).up ≡ true
        → Delivery gain w.transit [] l →
        All (From Any j) step.sent → Silent d (server_moves w j l step).state
    silent-server j step up del sent =
        record {
          down = λ i m. each (put-flagged no_server (λ q. q.up) refl w.servers j.0 _ up) (λ q. q.up ≡ false) i
              (λ e. clash (member i d) m (rw e (awake j.0 up))) (λ _. s.down i m);
          mail = (posted w.sent del).arrive (Unsaid d) s.mail (all_map (from_unsaid d Any j (awake j.0 up)) sent);
          blank = s.blank;
        }

    silent_calm : (k : ClientId) (i : ℕ) (m : Message) {gain : ℕ → ℕ} (step : Step ClientState) → pending i w.transit ≡ Some m
        → (client_at w k).living ≡ true → Calm n wins k (client_at w k).state gain step →
        ((j : ℕ) → member j d ≡ true → gain j ≡ 0) → Silent d (client_moves w k (replaced i gone w.transit) (client_at w k).downs step).state
    silent_calm k i m step e lives c no_gain =
        silent-client k _ step lives (delivery_delivered stills_gone i e) (all_map (by_unsaid d k _) c.by)
        (λ j y ep. rw c.timestamp (omega (arith, c.kept j, no_gain j y, s.blank k.0 j y (sym c.epoch ∙ ep))))

    silent : {e : Event} {o : EventOutcome} → Inv n wins w → Stays d e → Effect n wins w e o → Good o
    unfolding tries exits
    silent inv a refuses = tt
    silent inv a (begins {k = k} lives _ _) =
        let t : Timestamp = taken (client_at w k).state in
        silent-client k _ _ lives unchanged (all_map (by_unsaid d k t.0) (by_all (λ j. REQUEST k j t) (λ j. (refl, omega arith)) n))
        (λ j y ep. shows-none (record { client = k; timestamp = t }) n j)
    silent inv a (leaves {k = k} lives _) =
        let t : Timestamp = (client_at w k).state.timestamp in
        silent-client k _ _ lives unchanged
        (all_map (by_unsaid d k (newer t).0) (by_all (λ j. RELEASE k j t) (λ j. (refl, omega (arith, next_greater t))) n)) (λ j y ep. absurd (true≢false ep))
    silent inv a (dies {k = k} lives) =
        record {
          down = s.down;
          mail = s.mail;
          blank = λ i. each (put-flagged no_client (λ c. c.living) refl w.clients k.0 _ lives) (λ c. Blank d (id i) c.state) i
              (λ e. rw e (s.blank k.0)) (λ _. s.blank i);
        }
    silent inv a (sinks {j = j} up) =
        record {
          down = λ i m. each (put-flagged no_server (λ q. q.up) refl w.servers j.0 _ up) (λ q. q.up ≡ false) i (λ _. refl) (λ _. s.down i m);
          mail = again-all (Unsaid d) j s.mail;
          blank = λ i. rw (counts-down j w.clients i).state (s.blank i);
        }
    silent inv a (rises {j = j} there) =
        record {
          down = λ i m. each (put-numbered no_server w.servers j.0 _ there) (λ q. q.up ≡ false) i (λ e. clash (member i d) m (rw e a)) (λ _. s.down i m);
          mail = s.mail;
          blank = s.blank;
        }
    silent inv a (server_takes {i = i} tag k j t e up) =
        silent-server j _ up (delivery_delivered stills_keeping i.0 e)
        (fair_receive {P = Any} {R = Never} tag _ (λ p b. absurd b) tt (any_server (server_at w j).state)).from
    silent inv a (client_takes {i = i} {k = k} {j = j} {o = o} e lives) =
        silent_calm k i.0 (RESPONSE k j o) _ e lives
        (calm_respond n wins k j o (pending-all (Past (last (at no_client w.clients))) i.0 e inv.safe.sound.mail).0 (inv.safe.sound.fine k.0))
        (λ x y. rw (ne_eqb j.0 x (λ q. clash (member x d) y (rw q at (pending-all (Unsaid d) i.0 e s.mail)))) refl)
    silent inv a (client_checked {i = i} {k = k} {j = j} {t = t} e lives) =
        silent_calm k i.0 (CHECK k j t) {gain = λ x. 0} _ e lives
        (calm_checked n wins k j t (pending-all (Past (last (at no_client w.clients))) i.0 e inv.safe.sound.mail) (inv.safe.sound.fine k.0))
        (λ x y. refl)
    silent inv a (loses {i = i}) = record { down = s.down; mail = (delivery_dropped stills_gone i.0).arrive (Unsaid d) s.mail empty; blank = s.blank }
    silent inv a (suspects {j = j} up _ _) = silent-server j _ up unchanged
        (fair_suspect {P = Any} {R = Never} (λ p b. absurd b) (any_server (server_at w j).state)).from
    silent inv a (asks {j = j} up) = silent-server j _ up unchanged (fair_check {P = Any} {R = Never} (any_server (server_at w j).state)).from

  -- whatever follows, but for an `up` of theirs
  pub silent-from : {w : System} → Inv n wins w → Silent d w → {es : List Event} → All (Stays d) es → Silent d (run_from n wins w es)
  unfolding run_by
  silent-from i s empty = s
  silent-from {w} i s (more {x = e} a g) = silent-from {w = after w (event n wins w e)} (inv_event n wins w i e) (keeps s (event n wins w e) (silent w s i a (effect n wins w e))) g
