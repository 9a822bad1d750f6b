-- The field `most` is `Downs.most_down`. Said of any bound b: the field ends at most b exactly if it is so now, each epoch that begins
-- later has at most b servers ever down, and for each epoch that runs at most b numbers hold all servers that were down in it and all
-- that will be. Each event keeps that, forward and backward.
use mathlib.Core.Path.{◌≡◌, refl, sym, ap, subst, ◌∙◌}
use mathlib.Core.Logic.{inl, inr, ⊎_elim}
use Prim.Native.Nat.{ℕ, zero, suc, ◌≤◌, zero-le}
use native.Mathlib.Nat.{le_refl}
use native.Mathlib.Omega.{arith}
use mathlib.Core.Bool.{Bool, true, false, ◌&&◌, false≢true}
use mathlib.Core.List.{List, [], ◌∷◌, map}
use lib.ListN.{length, get_or, set}
use lib.Dec.{leb}
use borrow.Author.Tests.{eq-eqb, ne_eqb}
use Rattle.std.specs.Prelude.{if◌then◌else◌, Some, None, Option}
use Rattle.ids.specs.declared.ClientId.{ClientId}
use Rattle.ids.proofs.Choice.{decided, Test, clash}
use Rattle.wire.specs.Step.{Step, refused, stepped}
use Rattle.client_responses.specs.Figure1.{State as ClientState, Quorum, count, tries, exits, is_remainder}
use Rattle.system.specs.declared.Event.{Event}
use Rattle.system.specs.declared.Event.TheVariants.{Down}
use Rattle.system.specs.Numbered.{at, put, member, added, client_no, server_no}
use Rattle.system.specs.Places.{ClientPlace, ServerPlace, System, no_client, no_server, client_at, server_at, in_epoch, down_from, downed, worst}
use Rattle.system.specs.Events.{EventOutcome, event, went_down, nothing, with_places}
use Rattle.system.specs.Runs.{after, is_stepped, run_by, start, run}
use Rattle.system.specs.Downs as epochs
use Rattle.system.specs.Downs.{is_down, down_now, either, ends, ever_down, most_down, Follows}
use Rattle.system.proofs.Effects.{Effect, refuses, begins, leaves, dies, sinks, rises, server_takes, client_takes, client_checked, loses, suspects, asks, effect}
use Rattle.system.proofs.Branch.{branch, perhaps}
use Rattle.system.proofs.ClientSteps.{calm_respond, calm_checked}
use Rattle.system.proofs.TransitLaws.{pending-all}
use Rattle.system.proofs.PlaceLaws.{each, put-flagged, flagged_in, at_map, at-replicate, add_cases, add_more}
use Rattle.system.proofs.Sound.{last, Past}
use Rattle.system.proofs.Invariant.{Inv, Safe, inv_event, inv_start, most-after}
use Rattle.system.proofs.Flags.{Marked, numbers, length-numbers, member-numbers, added-marked, down-numbers, fits, either_cases, either_left, either_right}

-- what an event does to a client's epoch ------------------------------------------------------------------------------------

-- the client whose epoch begins: an event that gave o is that client's accepted try
abbrev begun : Event → EventOutcome → Option ClientId
begun e o = if is_stepped o then epochs.begins e else None

-- the event neither begins nor ends client k's epoch
record Passes (k : ClientId) (e : Event) (o : EventOutcome) : Type 0 where
  ends : is_stepped o && ends k e ≡ false
  begins : begun e o ≡ Some k → ⊥

-- client k's place is c before the event and c' after it, the servers are q and q'
data Turn (k : ClientId) (e : Event) (o : EventOutcome) (q q' : List ServerPlace) (c c' : ClientPlace) : Type 0 where
  opens : begun e o ≡ Some k → q' ≡ q → in_epoch c ≡ false → in_epoch c' ≡ true
      → c'.downs ≡ down_from 1 q → Turn k e o q q' c c'
  closes : is_stepped o && ends k e ≡ true → (begun e o ≡ Some k → ⊥) → in_epoch c' ≡ false → c'.downs ≡ [] → Turn k e o q q' c c'
  stays : Passes k e o → in_epoch c' ≡ in_epoch c → c'.downs ≡ c.downs → Turn k e o q q' c c'
  counts : Passes k e o → in_epoch c ≡ true → in_epoch c' ≡ true → (i : ℕ) → get_or (map is_down q') i false ≡ true
      → c'.downs ≡ added (suc i) c.downs → Turn k e o q q' c c'

-- server j, which has a place, is down once its place says so
now-down : (l : List ServerPlace) (i : ℕ) (v : ServerPlace) → suc i ≤ length l → v.up ≡ false → get_or (map is_down (set l i v)) i false ≡ true
now-down [] i v h e = absurd (omega arith)
now-down (q ∷ l) zero v h e = rw e
now-down (q ∷ l) (suc i) v h e = now-down l i v (omega arith) e

none_some : {i : ClientId} → ◌≡◌ {A = Option ClientId} None (Some i) → ⊥
none_some e = let z : ◌≡◌ {A = ℕ} 0 1 = cc in omega arith

passed : {e : Event} (o : EventOutcome) (i : ClientId) → epochs.begins e ≡ None → ends i e ≡ false → Passes i e o
passed (refused x) i b n = record { ends = refl; begins = none_some }
passed (stepped v) i b n = record { ends = n; begins = λ q. none_some (sym b ∙ q) }

module _ {n : ℕ} {wins : Quorum} {w : System} (s : Safe n wins w) where
  -- the place of client k is the only one to change
  turn_one : (k : ClientId) (c : ClientPlace) {e : Event} {o : EventOutcome} {q : List ServerPlace} → (client_at w k).living ≡ true →
      ((i : ClientId) → (i.0 ≡ k.0 → ⊥) → Passes i e o) → Turn k e o w.servers q (client_at w k) c →
      (i : ClientId) → Turn i e o w.servers q (client_at w i) (at no_client (put w.clients k.0 c) i.0)
  turn_one k c {e} {o} {q} lives others t i =
      each (put-flagged no_client (λ x. x.living) refl w.clients k.0 c lives)
      (Turn i e o w.servers q (client_at w i)) i.0
      (λ same. subst (λ (x : ClientId). Turn x e o w.servers q (client_at w x) c) (ap client_no (sym same)) t)
      (λ ne. stays (others i ne) refl refl)

  -- it has made a step in its section
  turn_step : (k : ClientId) (c : ClientState) {e : Event} {o : EventOutcome} → (client_at w k).living ≡ true → ((i : ClientId) → Passes i e o) →
      is_remainder c.section ≡ is_remainder (client_at w k).state.section →
      (i : ClientId) → Turn i e o w.servers w.servers (client_at w i)
      (at no_client (put w.clients k.0 (record { living = true; state = c; downs = (client_at w k).downs })) i.0)
  turn_step k c lives passes same = turn_one k _ lives (λ i _. passes i) (stays (passes k) (rw (lives, same)) refl)

  -- server j goes down: each epoch that runs counts it
  turn_down : (j : ℕ) → (server_at w (server_no j)).up ≡ true → (i : ClientId) → let v : Step System = went_down w (server_no j) in
      Turn i (Down (server_no j)) (stepped v) w.servers v.state.servers (client_at w i) (client_at v.state i)
  turn_down zero up i = absurd (false≢true up)
  turn_down (suc x) up i =
      let v : Step System = went_down w (server_no (suc x)) in
      let c : ClientPlace = client_at w i in
      let passes : Passes i (Down (server_no (suc x))) (stepped v) = passed _ i refl refl in
      let G : ClientPlace → Type 0 = Turn i (Down (server_no (suc x))) (stepped v) w.servers v.state.servers c in
      at_map no_client (downed (server_no (suc x))) G w.clients i.0 (λ e. stays passes (rw e) (rw e))
      (branch (λ d. G (record { living = c.living; state = c.state; downs = d })) (in_epoch c)
      (λ ep. counts passes ep ep x (now-down w.servers x _ (flagged_in no_server (λ q. q.up) refl w.servers (suc x) up).1 refl) refl)
      (λ _. stays passes refl refl))

  turn : {e : Event} {o : EventOutcome} → Effect n wins w e o → (i : ClientId) →
      Turn i e o w.servers (after w o).servers (client_at w i) (client_at (after w o) i)
  unfolding after tries exits
  turn refuses = λ i. stays (record { ends = refl; begins = none_some }) refl refl
  turn (begins {k = k} lives rests _) =
      turn_one k _ lives (λ i ne. record { ends = refl; begins = λ q. let e : k ≡ i = cc in ne (sym (ap (λ (x : ClientId). x.0) e)) })
      (opens refl refl (rw (lives, rests)) refl refl)
  turn (leaves {k = k} lives _) =
      turn_one k _ lives (λ i ne. record { ends = ne_eqb k.0 i.0 (λ q. ne (sym q)); begins = none_some })
      (closes (eq-eqb k.0 k.0 refl) none_some refl refl)
  turn (dies {k = k} lives) =
      turn_one k _ lives (λ i ne. record { ends = ne_eqb k.0 i.0 (λ q. ne (sym q)); begins = none_some })
      (closes (eq-eqb k.0 k.0 refl) none_some refl refl)
  turn (sinks {j = j} up) = turn_down j.0 up
  turn (rises _) = λ i. stays (passed _ i refl refl) refl refl
  turn (server_takes tag k j t _ _) = λ i. stays (passed _ i refl refl) refl refl
  turn (client_takes {i = i} {k = k} {j = j} {o = o} e lives) =
      turn_step k _ lives (λ i. passed _ i refl refl)
      (calm_respond n wins k j o (pending-all (Past (last (at no_client w.clients))) i.0 e s.sound.mail).0 (s.sound.fine k.0)).epoch
  turn (client_checked {i = i} {k = k} {j = j} {t = t} e lives) =
      turn_step k _ lives (λ i. passed _ i refl refl)
      (calm_checked n wins k {gain = λ _. 0} j t (pending-all (Past (last (at no_client w.clients))) i.0 e s.sound.mail)
      (s.sound.fine k.0)).epoch
  turn loses = λ i. stays (passed _ i refl refl) refl refl
  turn (suspects _ _ _) = λ i. stays (passed _ i refl refl) refl refl
  turn (asks _) = λ i. stays (passed _ i refl refl) refl refl

-- what a run keeps ----------------------------------------------------------------------------------------------------------

-- the invariant, and each client's servers ever down are different ones
record Known (n : ℕ) (wins : Quorum) (w : System) : Type 0 where
  inv : Inv n wins w
  marked : (k : ClientId) → Marked (client_at w k).downs

turn_marked : {k : ClientId} {e : Event} {o : EventOutcome} {q q' : List ServerPlace} {c c' : ClientPlace} → Turn k e o q q' c c'
    → Marked c.downs → Marked c'.downs
turn_marked {q = q} (opens _ _ _ _ d) m = record { flags = map is_down q; same = d ∙ down-numbers 1 q }
turn_marked (closes _ _ _ d) m = record { flags = []; same = d }
turn_marked (stays _ _ d) m = rw d m
turn_marked {c = c} (counts _ _ _ i _ d) m = rw d (added-marked c.downs i m)

worst-least : (b : ℕ) (l : List ClientPlace) → ((k : ClientId) → length (at no_client l k.0).downs ≤ b) → worst l ≤ b
unfolding worst
worst-least b [] h = zero-le
worst-least b (c ∷ l) h = omega (arith, h (client_no 1), worst-least b l (λ k. later k))
  where
    later : (k : ClientId) → length (at no_client l k.0).downs ≤ b
    later k = go k.0
      where
        go : (i : ℕ) → length (at no_client l i).downs ≤ b
        go zero = zero-le
        go (suc i) = h (client_no (suc (suc i)))

-- a server down now is in the set of each epoch that runs
down_in : {n : ℕ} {wins : Quorum} {w : System} → Inv n wins w → (k : ClientId) → in_epoch (client_at w k) ≡ true → (i : ℕ)
    → get_or (down_now w) i false ≡ true → member (suc i) (client_at w k).downs ≡ true
down_in {w = w} v k ep i h = v.safe.nest.now k.0 ep (suc i) (rw (down-numbers 1 w.servers, member-numbers (down_now w) i) h)

-- the servers ever down from now on in client k's epoch, as the first event ends it or not
module _ (step : System → Event → EventOutcome) (k : ClientId) where
  module _ (w : System) (e : Event) (es : List Event) where
    ever-ends : is_stepped (step w e) && ends k e ≡ true → ever_down step k w (e ∷ es) ≡ down_now w
    unfolding ever_down
    ever-ends h = rw h

    ever-goes : is_stepped (step w e) && ends k e ≡ false → ever_down step k w (e ∷ es) ≡ either (down_now w) (ever_down step k (after w (step w e)) es)
    unfolding ever_down
    ever-goes h = rw h

  -- those down now are among them
  now-ever : (w : System) (es : List Event) (i : ℕ) → get_or (down_now w) i false ≡ true → get_or (ever_down step k w es) i false ≡ true
  unfolding ever_down
  now-ever w [] i h = h
  now-ever w (e ∷ es) i h = go (decided (is_stepped (step w e) && ends k e))
    where
      go : Test (is_stepped (step w e) && ends k e) → get_or (ever_down step k w (e ∷ es)) i false ≡ true
      go (inl q) = rw (ever-ends w e es q) h
      go (inr q) = rw (ever-goes w e es q) (either_left (down_now w) (ever_down step k (after w (step w e)) es) i h)

module _ (n : ℕ) (wins : Quorum) (step : System → Event → EventOutcome) (follows : Follows n wins step) where
  effects : (w : System) (e : Event) (o : EventOutcome) → (is_stepped o ≡ true → o ≡ event n wins w e) → Effect n wins w e o
  effects w e (refused x) f = refuses
  effects w e (stepped v) f = rw (f refl) (effect n wins w e)

  keeps : (w : System) (e : Event) (o : EventOutcome) → (is_stepped o ≡ true → o ≡ event n wins w e) → Inv n wins w → Inv n wins (after w o)
  unfolding after
  keeps w e (refused x) f v = v
  keeps w e (stepped s) f v = subst (λ (o : EventOutcome). Inv n wins (after w o)) (sym (f refl)) (inv_event n wins w v e)

  module _ {w : System} (known : Known n wins w) (e : Event) where
    turns : (k : ClientId) → Turn k e (step w e) w.servers (after w (step w e)).servers (client_at w k) (client_at (after w (step w e)) k)
    turns = turn known.inv.safe (effects w e (step w e) (follows w e))

    known_next : Known n wins (after w (step w e))
    known_next = record { inv = keeps w e (step w e) (follows w e) known.inv; marked = λ k. turn_marked (turns k) (known.marked k) }

  -- at most b numbers hold the servers that were down in client k's epoch and those that will be
  record Room (b : ℕ) (k : ClientId) (w : System) (es : List Event) : Type 0 where
    held : List ℕ
    few : length held ≤ b
    past : (i : ℕ) → member (suc i) (client_at w k).downs ≡ true → member (suc i) held ≡ true
    ahead : (i : ℕ) → get_or (ever_down step k w es) i false ≡ true → member (suc i) held ≡ true

  record Within (b : ℕ) (w : System) (es : List Event) : Type 0 where
    most : w.most ≤ b
    running : (k : ClientId) → in_epoch (client_at w k) ≡ true → Room b k w es
    rest : most_down step w es ≤ b

  module _ (b : ℕ) (w : System) (known : Known n wins w) where
    -- the epoch ends now
    last-room : (k : ClientId) (es : List Event) → w.most ≤ b → in_epoch (client_at w k) ≡ true → ever_down step k w es ≡ down_now w → Room b k w es
    last-room k es m ep e =
        record {
          held = (client_at w k).downs;
          few = omega (arith, known.inv.bound k.0);
          past = λ i h. h;
          ahead = λ i h. down_in known.inv k ep i (rw e at h);
        }

    within_end : w.most ≤ b → Within b w []
    unfolding most_down ever_down
    within_end m = record { most = m; running = λ k ep. last-room k [] m ep refl; rest = zero-le }

    module _ (e : Event) (es : List Event) where
      abbrev w' : System
      w' = after w (step w e)

      abbrev Turned : ClientId → Type 0
      Turned k = Turn k e (step w e) w.servers w'.servers (client_at w k) (client_at w' k)

      abbrev ever : ClientId → List Bool
      ever k = ever_down step k w' es

      room-kept : (k : ClientId) → in_epoch (client_at w k) ≡ true → is_stepped (step w e) && ends k e ≡ false → Room b k w' es →
          ((i : ℕ) → member (suc i) (client_at w k).downs ≡ true → member (suc i) (client_at w' k).downs ≡ true) → Room b k w (e ∷ es)
      room-kept k ep on r grows =
          record {
            held = r.held;
            few = r.few;
            past = λ i h. r.past i (grows i h);
            ahead = λ i h. ⊎_elim (λ (q : get_or (down_now w) i false ≡ true). r.past i (grows i (down_in known.inv k ep i q))) (r.ahead i)
                (either_cases (down_now w) (ever k) i (rw (ever-goes step k w e es on) at h));
          }

      -- forward
      try_few : (k : ClientId) → begun e (step w e) ≡ Some k → most_down step w (e ∷ es) ≤ b → count (ever k) ≤ b
      unfolding most_down
      try_few k q h = omega (arith, rw q at h)

      room_next : (k : ClientId) → Within b w (e ∷ es) → in_epoch (client_at w' k) ≡ true → Turned k → Room b k w' es
      room_next k t ep (opens q same _ _ d) =
          record {
            held = numbers 1 (ever k);
            few = omega (arith, length-numbers 1 (ever k), try_few k q t.rest);
            past = λ i h. rw (member-numbers (ever k) i) (now-ever step k w' es i
                (rw same (rw (d, down-numbers 1 w.servers, member-numbers (down_now w) i) at h)));
            ahead = λ i h. rw (member-numbers (ever k) i) h;
          }
      room_next k t ep (closes _ _ out _) = clash _ ep out
      room_next k t ep (stays p same d) =
          let r : Room b k w (e ∷ es) = t.running k (sym same ∙ ep) in
          record {
            held = r.held;
            few = r.few;
            past = λ i h. r.past i (rw d at h);
            ahead = λ i h. r.ahead i (rw (ever-goes step k w e es p.ends) (either_right (down_now w) (ever k) i h));
          }
      room_next k t ep (counts p was _ j down d) =
          let r : Room b k w (e ∷ es) = t.running k was in
          let later : (i : ℕ) → get_or (ever k) i false ≡ true → member (suc i) r.held ≡ true = λ i h.
          r.ahead i (rw (ever-goes step k w e es p.ends) (either_right (down_now w) (ever k) i h)) in
          record {
            held = r.held;
            few = r.few;
            past = λ i h. ⊎_elim (λ (q : suc i ≡ suc j). rw q (later j (now-ever step k w' es j down))) (r.past i)
                (add_cases (suc i) (suc j) (client_at w k).downs (rw d at h));
            ahead = later;
          }

      -- backward
      room_back : (k : ClientId) → Within b w' es → in_epoch (client_at w k) ≡ true → Turned k → Room b k w (e ∷ es)
      room_back k t ep (opens _ _ out _ _) = clash _ ep out
      room_back k t ep (closes q _ _ _) = last-room k (e ∷ es) (omega (arith, most-after n wins w (step w e), t.most)) ep (ever-ends step k w e es q)
      room_back k t ep (stays p same d) = room-kept k ep p.ends (t.running k (same ∙ ep)) (λ i h. rw d h)
      room_back k t ep (counts p _ is j _ d) = room-kept k ep p.ends (t.running k is) (λ i h. rw d (add_more (suc i) (suc j) (client_at w k).downs h))

      length-few : (k : ClientId) → Within b w (e ∷ es) → Turned k → Test (in_epoch (client_at w' k)) → length (client_at w' k).downs ≤ b
      length-few k t u (inl ep) =
          let r : Room b k w' es = room_next k t ep u in
          let m : Marked (client_at w' k).downs = (known_next known e).marked k in
          omega (
            arith,
            ap length m.same,
            length-numbers 1 m.flags,
            r.few,
            fits m.flags r.held (λ i h. r.past i (rw (m.same, member-numbers m.flags i) h)),
          )
      length-few k t (opens _ _ _ ep _) (inr out) = clash _ ep out
      length-few k t (closes _ _ _ d) (inr out) = rw d zero-le
      length-few k t (stays _ _ d) (inr out) = rw d (omega (arith, known.inv.bound k.0, t.most))
      length-few k t (counts _ _ ep _ _ _) (inr out) = clash _ ep out

      most-least : (o : EventOutcome) → w.most ≤ b → ((k : ClientId) → length (client_at (after w o) k).downs ≤ b) → (after w o).most ≤ b
      unfolding after
      most-least (refused x) m h = m
      most-least (stepped v) m h = omega (arith, worst-least b v.state.clients h)

      rest-few : most_down step w (e ∷ es) ≤ b → most_down step w' es ≤ b
      unfolding most_down
      rest-few h = omega arith

      within-next : Within b w (e ∷ es) → Within b w' es
      within-next t =
          record {
            most = most-least (step w e) t.most (λ k. length-few k t (turns known e k) (decided (in_epoch (client_at w' k))));
            running = λ k ep. room_next k t ep (turns known e k);
            rest = rest-few t.rest;
          }

      try_back : (k : ClientId) → Within b w' es → begun e (step w e) ≡ Some k → Turned k → count (ever k) ≤ b
      try_back k t q (opens _ _ _ ep _) = let r : Room b k w' es = t.running k ep in omega (arith, r.few, fits (ever k) r.held r.ahead)
      try_back k t q (closes _ f _ _) = absurd (f q)
      try_back k t q (stays p _ _) = absurd (p.begins q)
      try_back k t q (counts p _ _ _ _ _) = absurd (p.begins q)

      rest_back : Within b w' es → most_down step w (e ∷ es) ≤ b
      unfolding most_down
      rest_back t = omega (
        arith,
        t.rest,
        perhaps {f = λ k. count (ever k)} (λ x. x ≤ b) (begun e (step w e)) (λ _. zero-le) (λ k q. try_back k t q (turns known e k)),
      )

      within-back : Within b w' es → Within b w (e ∷ es)
      within-back t =
          record {
            most = omega (arith, most-after n wins w (step w e), t.most);
            running = λ k ep. room_back k t ep (turns known e k);
            rest = rest_back t;
          }

  most-within : (b : ℕ) (w : System) (es : List Event) → Known n wins w → Within b w es → (run_by step w es).most ≤ b
  unfolding run_by
  most-within b w [] known t = t.most
  most-within b w (e ∷ es) known t = most-within b (after w (step w e)) es (known_next known e) (within-next b w known e es t)

  within-most : (b : ℕ) (w : System) (es : List Event) → Known n wins w → (run_by step w es).most ≤ b → Within b w es
  unfolding run_by
  within-most b w [] known h = within_end b w known h
  within-most b w (e ∷ es) known h = within-back b w known e es (within-most b (after w (step w e)) es (known_next known e) h)

  pub most-down : (clients : ℕ) (es : List Event) → (run_by step (start n wins clients) es).most ≡ most_down step (start n wins clients) es
  unfolding start
  most-down clients es =
      let w : System = start n wins clients in
      let resting : (k : ClientId) → in_epoch (client_at w k) ≡ false = λ k. at-replicate no_client (λ c. in_epoch c ≡ false) clients k.0 _ refl refl in
      let known : Known n wins w = record {
        inv = inv_start n wins clients;
        marked = λ k. at-replicate no_client (λ c. Marked c.downs) clients k.0 _ (record { flags = []; same = refl }) (record { flags = []; same = refl });
      } in
      let up : (run_by step w es).most ≤ most_down step w es = most-within (most_down step w es) w es known
      (record { most = zero-le; running = λ k ep. clash _ ep (resting k); rest = le_refl _ }) in
      let down : most_down step w es ≤ (run_by step w es).most = (within-most (run_by step w es).most w es known (le_refl _)).rest in
      omega arith

-- of a run, whose step is `event`
pub run_most_down : (n : ℕ) (wins : Quorum) (clients : ℕ) (es : List Event) → (run n wins clients es).most ≡ most_down (event n wins) (start n wins clients) es
run_most_down n wins = most-down n wins (event n wins) (λ w e _. refl)

-- Refusal 19 only refuses more.
pub places-follow : (n : ℕ) (wins : Quorum) (places last : ℕ) → Follows n wins (λ w e. with_places places last (event n wins w e))
unfolding with_places
places-follow n wins places last w e = accepted (event n wins w e)
  where
    accepted : (o : EventOutcome) → is_stepped (with_places places last o) ≡ true → with_places places last o ≡ o
    accepted (refused x) h = refl
    accepted (stepped v) h =
        let G : EventOutcome → Type 0 = λ r. is_stepped r ≡ true → r ≡ stepped v in
        branch G (nothing v.sent) (λ _ _. refl)
        (λ _. branch G (leb (length v.state.transit) places && leb v.state.sent last) (λ _ _. refl) (λ _ g. absurd (false≢true g))) h
