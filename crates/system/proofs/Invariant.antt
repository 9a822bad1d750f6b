-- The invariant of a whole run: tokens, nested down-sets, and the count of the most servers down. Every event keeps it.
use Rattle.std.specs.Prelude.{Some, None}
use mathlib.Core.Path.{◌≡◌, refl, ap}
use Prim.Native.Nat.{ℕ, suc, zero, ◌≤◌, ◌<◌, zero-le}
use native.Mathlib.Nat.{le_refl}
use native.Mathlib.Omega.{arith}
use mathlib.Core.Bool.{true, false, not, false≢true, true≢false, and-eq-true_iff}
use mathlib.Core.List.{List, [], ◌∷◌, ◌++◌}
use lib.ListN.{length, length-replicate}
use borrow.Author.Tests.{eq-eqb}
use Rattle.ids.specs.Requests.{is_request}
use Rattle.ids.specs.declared.ClientId.{ClientId}
use Rattle.ids.specs.declared.ServerId.{ServerId}
use Rattle.ids.specs.declared.Timestamp.{Timestamp}
use Rattle.ids.specs.declared.Request.{Request}
use Rattle.wire.specs.Step.{Step, stay, refused, stepped}
use Rattle.wire.specs.declared.Message.{Message}
use Rattle.wire.specs.declared.Message.TheVariants.{Request as REQUEST, Release as RELEASE, Response as RESPONSE, Check as CHECK}
use Rattle.server_votes.specs.declared.Tag.{Tag}
use Rattle.server_votes.specs.declared.Tag.TheVariants.{Request as Asks, Yield as Yields, Release as Releases, Inquiry as Inquires}
use Rattle.server_votes.specs.Figure1.{receive, suspect, check}
use Rattle.client_responses.specs.Figure1.{State as ClientState, Quorum, taken, tries, exits, is_remainder, is_critical, request}
use Rattle.system.specs.declared.Event.{Event}
use Rattle.system.specs.Numbered.{at, put, has, client_no, server_no}
use Rattle.system.specs.Transit.{pending, replaced, gone}
use Rattle.system.specs.Places.{ClientPlace, ServerPlace, System, no_client, no_server, client_at, server_at, in_epoch, down_from}
use Rattle.system.specs.Events.{EventOutcome, client_moves, event}
use Rattle.system.specs.Runs.{run_by, after, start, next, run_from, run}
use Rattle.system.proofs.Effects.{Effect, refuses, begins, leaves, dies, sinks, rises, server_takes, client_takes, client_checked, loses, suspects, asks, effect}
use Rattle.ids.proofs.Choice.{clash}
use Rattle.system.proofs.Branch.{differ}
use Rattle.server_votes.proofs.Tagged.{message}
use Rattle.system.proofs.Tokens.{worth, token, empty}
use Rattle.system.proofs.ServerSteps.{Holds, Spares, fair_stay, fair_receive, fair_suspect, fair_check}
use Rattle.system.proofs.ClientSteps.{next_greater, taken_greater, InTime, Fine, Calm, by_all, requests-none, shows-none, mine-none, calm_respond, calm_checked}
use Rattle.system.proofs.TransitLaws.{posted, unchanged, stills_gone, stills_keeping, delivery_delivered, delivery_dropped, pending-all}
use Rattle.system.proofs.PlaceLaws.{Changes, put-flagged, put-numbered, flagged_in, counts-down, at-replicate, worst-at}
use Rattle.system.proofs.Sound.{id, last, Old, Past, Runs, Sound, fresh, sound_client_lem, sound_server_lem, sound_calm, sound_mail, sound_down}
use Rattle.system.proofs.Nest.{Nest, starts, goes_on, nest_client, nest_servers, still-up, newly_down, nest_down}

-- the timestamp of a message, whatever its tag
in_time : (t : ℕ → ℕ) (tag : Tag) (k : ClientId) (j : ServerId) (s : Timestamp) → Past t (message tag k j s) → InTime tag s (t k.0)
in_time t Asks k j s h = h
in_time t Yields k j s h = h
in_time t Releases k j s h = h
in_time t Inquires k j s h = h

token-here : (p : Request) (tag : Tag) (k : ClientId) (j : ServerId) (t : Timestamp) → worth p (message tag k j t) ≤ token p j.0 (message tag k j t)
token-here p Asks k j t = zero-le
token-here p Yields k j t = rw (eq-eqb j.0 j.0 refl) (le_refl _)
token-here p Releases k j t = zero-le
token-here p Inquires k j t = zero-le

numbered-from : {A : Type 0} (l : List A) (i : ℕ) → has l i ≡ true → 0 < i
numbered-from l zero h = absurd (false≢true h)
numbered-from l (suc i) h = omega arith

module _ (n : ℕ) (wins : Quorum) where
  pub record Safe (w : System) : Type 0 where
    pub sound : Sound n wins (at no_client w.clients) (at no_server w.servers) w.transit
    pub nest : Nest (at no_client w.clients) (down_from 1 w.servers)

  pub record Inv (w : System) : Type 0 where
    pub safe : Safe w
    pub bound : (k : ℕ) → length (client_at w (client_no k)).downs ≤ w.most

  abbrev Good : EventOutcome → Type 0
  Good (refused x) = Unit
  Good (stepped v) = Safe v.state

  keeps : {w : System} → Inv w → (o : EventOutcome) → Good o → Inv (after w o)
  unfolding after
  keeps i (refused x) g = i
  keeps i (stepped v) g =
      record {
        safe = record { sound = g.sound; nest = g.nest };
        bound = λ k. omega (arith, worst-at v.state.clients k);
      }

  module _ (w : System) (s : Safe w) where
    new_client_lem : (k : ℕ) (c : ClientPlace) → (client_at w (client_no k)).living ≡ true
        → Changes (at no_client w.clients) (at no_client (put w.clients k c)) k c
    new_client_lem = put-flagged no_client (λ c. c.living) refl w.clients

    new_server_lem : (j : ℕ) (q : ServerPlace) → (server_at w (server_no j)).up ≡ true → Changes (at no_server w.servers) (at no_server (put w.servers j q)) j q
    new_server_lem = put-flagged no_server (λ q. q.up) refl w.servers

    positive : (j : ℕ) → (server_at w (server_no j)).up ≡ true → 0 < j
    positive j up = (flagged_in no_server (λ q. q.up) refl w.servers j up).0

    -- the timestamp of a message to a server
    spared : (tag : Tag) (t : Timestamp) (k : ClientId) → InTime tag t (last (at no_client w.clients) k.0) → (p : Request)
        → Runs (at no_client w.clients) p →
        Spares tag (record { client = k; timestamp = t }) p
    spared tag t k h p run e = omega (arith, ap (λ (x : ClientId). last (at no_client w.clients) x.0) e, run.1)

    safe_calm : (k : ClientId) (i : ℕ) (m : Message) (step : Step ClientState) → pending i w.transit ≡ Some m → (client_at w k).living ≡ true →
        Calm n wins k (client_at w k).state (λ j. token (request k (client_at w k).state) j m) step →
        Safe (client_moves w k (replaced i gone w.transit) (client_at w k).downs step).state
    safe_calm k i m step e lives c =
        record {
          sound = sound_calm n wins k.0 step lives (new_client_lem k.0 _ lives) s.sound (posted w.sent (delivery_delivered stills_gone i e)) c;
          nest = nest_client (new_client_lem k.0 _ lives) s.nest (λ ep. goes_on (rw (lives, ← c.epoch) ep) refl);
        }

    good : {e : Event} {o : EventOutcome} → Effect n wins w e o → Good o
    unfolding tries exits
    good refuses = tt
    good (begins {k = k} lives _ _) =
        let t : Timestamp = taken (client_at w k).state in
        let gt = taken_greater (client_at w k).state in
        let r : Request = record { client = k; timestamp = t } in
        record {
          sound = sound_client_lem n wins (new_client_lem k.0 _ lives) s.sound (posted w.sent unchanged)
              (omega (arith, gt)) (by_all (λ j. REQUEST k j t) (λ j. (refl, omega arith)) n)
              (record { mine = λ _. mine-none r n; sized = λ _. length-replicate n None; won = λ b. absurd (false≢true b) })
              (λ j ep no. omega (arith, fresh (last (at no_client w.clients)) r j gt s.sound.mail, requests-none r j k t n, shows-none r n j));
          nest = nest_client (new_client_lem k.0 _ lives) s.nest (λ ep. starts refl);
        }
    good (leaves {k = k} lives _) =
        let t : Timestamp = (client_at w k).state.timestamp in
        record {
          sound = sound_client_lem n wins (new_client_lem k.0 _ lives) s.sound (posted w.sent unchanged)
              (omega (arith, next_greater t)) (by_all (λ j. RELEASE k j t) (λ j. (refl, omega (arith, next_greater t))) n)
              (record { mine = λ b. absurd (true≢false b); sized = λ b. absurd (true≢false b); won = λ b. absurd (false≢true b) })
              (λ j ep no. absurd (false≢true ep));
          nest = nest_client (new_client_lem k.0 _ lives) s.nest (λ ep. absurd (false≢true ep));
        }
    good (dies {k = k} lives) =
        record {
          sound = sound_client_lem n wins (new_client_lem k.0 _ lives) s.sound unchanged (le_refl _) empty (s.sound.fine k.0)
              (λ j ep no. absurd (false≢true ep));
          nest = nest_client (new_client_lem k.0 _ lives) s.nest (λ ep. absurd (false≢true ep));
        }
    good (sinks {j = j} up) =
        record {
          sound = sound_down n wins j (counts-down j w.clients) (new_server_lem j.0 _ up) s.sound;
          nest = nest_down j (counts-down j w.clients) (newly_down w.servers j.0 _) s.nest;
        }
    good (rises {j = j} there) =
        record {
          sound = sound_server_lem n wins j (stay (server_at w j).state) (numbered-from w.servers j.0 there)
              (put-numbered no_server w.servers j.0 _ there) s.sound unchanged (λ p. le_refl 0) (fair_stay (s.sound.holds j.0));
          nest = nest_servers s.nest (still-up w.servers j.0 (record { up = true; state = (server_at w j).state }) refl);
        }
    good (server_takes {i = i} tag k j t e up) =
        let r : Request = record { client = k; timestamp = t } in
        let time = in_time (last (at no_client w.clients)) tag k j t (pending-all (Past (last (at no_client w.clients))) i.0 e s.sound.mail) in
        record {
          sound = sound_server_lem n wins j (receive j tag r (server_at w j).state) (positive j.0 up) (new_server_lem j.0 _ up) s.sound
              (posted w.sent (delivery_delivered stills_keeping i.0 e)) (λ p. token-here p tag k j t)
              (fair_receive tag r (spared tag t k time) (omega arith) (s.sound.holds j.0));
          nest = nest_servers s.nest (still-up w.servers j.0 _ refl);
        }
    good (client_takes {i = i} {k = k} {j = j} {o = o} e lives) =
        safe_calm k i.0 (RESPONSE k j o) _ e lives
        (calm_respond n wins k j o (pending-all (Past (last (at no_client w.clients))) i.0 e s.sound.mail).0 (s.sound.fine k.0))
    good (client_checked {i = i} {k = k} {j = j} {t = t} e lives) =
        safe_calm k i.0 (CHECK k j t) _ e lives
        (calm_checked n wins k j t (pending-all (Past (last (at no_client w.clients))) i.0 e s.sound.mail) (s.sound.fine k.0))
    good (loses {i = i}) = record { sound = sound_mail n wins s.sound (delivery_dropped stills_gone i.0); nest = s.nest }
    good (suspects {j = j} {o = o} up e dead) =
        let other : (p : Request) → Runs (at no_client w.clients) p → is_request p (server_at w j).state.owner ≡ false = λ p run.
        rw e (differ o p (λ q. clash (client_at w p.client).living
        ((and-eq-true_iff (client_at w p.client).living (not (is_remainder (client_at w p.client).state.section))).0 run.0).0
        (rw (ap (λ (x : Request). x.client.0) q) at dead))) in
        record {
          sound = sound_server_lem n wins j (suspect j (server_at w j).state) (positive j.0 up) (new_server_lem j.0 _ up) s.sound
              (posted w.sent unchanged) (λ p. le_refl 0) (fair_suspect other (s.sound.holds j.0));
          nest = nest_servers s.nest (still-up w.servers j.0 _ refl);
        }
    good (asks {j = j} up) =
        record {
          sound = sound_server_lem n wins j (check j (server_at w j).state) (positive j.0 up) (new_server_lem j.0 _ up) s.sound
              (posted w.sent unchanged) (λ p. le_refl 0) (fair_check (s.sound.holds j.0));
          nest = nest_servers s.nest (still-up w.servers j.0 _ refl);
        }

  pub inv_start : (clients : ℕ) → Inv (start n wins clients)
  unfolding start
  inv_start clients =
      let quiet : (k : ℕ)
      → in_epoch (client_at (start n wins clients) (client_no k)) ≡ false = λ k. at-replicate no_client (λ c. in_epoch c ≡ false) clients k _ refl refl in
      let rest : (k : ℕ) (c : ClientState) → is_remainder c.section ≡ true → is_critical c.section ≡ false → Fine n wins (id k) c = λ k c e h.
      record {
        mine = λ b. clash (is_remainder c.section) e b;
        sized = λ b. clash (is_remainder c.section) e b;
        won = λ b. clash (is_critical c.section) b h;
      } in
      record {
        safe = record {
          sound = record {
            fine = λ k. at-replicate no_client (λ c. Fine n wins (id k) c.state) clients k _ (rest k _ refl refl) (rest k _ refl refl);
            tokens = λ k j ep no. clash _ ep (quiet k);
            mail = empty;
            holds = λ j. at-replicate no_server (λ q. Holds (Old (last (at no_client (start n wins clients).clients))) q.state) n j _
                (record { owner = tt; queue = empty }) (record { owner = tt; queue = empty });
          };
          nest = record { chain = λ k i ep ei. clash _ ep (quiet k); now = λ k ep. clash _ ep (quiet k) };
        };
        bound = λ k. at-replicate no_client (λ (c : ClientPlace). length c.downs ≤ 0) clients k _ zero-le zero-le;
      }

  pub inv_event : (w : System) → Inv w → (e : Event) → Inv (next n wins w e)
  inv_event w i e = keeps i (event n wins w e) (good w i.safe (effect n wins w e))

  pub inv_from : (w : System) → Inv w → (es : List Event) → Inv (run_from n wins w es)
  unfolding run_by
  inv_from w i [] = i
  inv_from w i (e ∷ es) = inv_from (next n wins w e) (inv_event w i e) es

  pub inv_run : (clients : ℕ) (es : List Event) → Inv (run_from n wins (start n wins clients) es)
  inv_run clients es = inv_from (start n wins clients) (inv_start clients) es

  -- the most servers down within an epoch never falls
  pub most-after : (w : System) (o : EventOutcome) → w.most ≤ (after w o).most
  unfolding after
  most-after w (refused x) = le_refl w.most
  most-after w (stepped v) = omega arith

  most-from : (w : System) (es : List Event) → w.most ≤ (run_from n wins w es).most
  unfolding run_by
  most-from w [] = le_refl w.most
  most-from w (e ∷ es) = omega (arith, most-after w (event n wins w e), most-from (next n wins w e) es)

  pub most_prefix : (w : System) (es fs : List Event) → (run_from n wins w es).most ≤ (run_from n wins w (es ++ fs)).most
  unfolding run_by
  most_prefix w [] fs = most-from w fs
  most_prefix w (e ∷ es) fs = most_prefix (next n wins w e) es fs
