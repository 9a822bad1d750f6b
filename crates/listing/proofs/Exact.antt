-- The listing has every short run and no other list: a system that events led to accepts no event but of its clients, its servers and the messages ever
-- sent, since what is in transit has such a number; and the beginnings of a run are runs.
use Rattle.std.specs.Prelude.{Some}
use mathlib.Core.Path.{◌≡◌, refl}
use mathlib.Core.Logic.{⊎_elim}
use Prim.Native.Nat.{ℕ, zero, suc, ◌+◌, ◌≤◌, ◌<◌, zero-le}
use native.Mathlib.Omega.{arith}
use mathlib.Core.Bool.{Bool, true, false, false≢true}
use mathlib.Core.List.Memᴰ.{append_left}
use mathlib.Core.List.Memᴰ.{append_right}
use mathlib.Core.List.Memᴰ.{cases_cons as cons-cases}
use mathlib.Core.List.Memᴰ.{head as first}
use mathlib.Core.List.Memᴰ.{map as map-among}
use mathlib.Core.List.Memᴰ.{not-nil as none-among}
use mathlib.Core.List.Memᴰ.{tail as later}
use mathlib.Core.List.{List, [], ◌∷◌, map, append-nil, Memᴰ as Among}
use lib.Dec.{eqb, ltb, leb}
use lib.ListN.{length, get_or}
use borrow.Author.Tests.{eqb-true, eqb-false, ltb-true, leb-true, le-leb}
use Rattle.ids.specs.declared.Refusal.{Refusal}
use Rattle.ids.proofs.Choice.{both, decided}
use Rattle.wire.specs.declared.Message.{Message}
use Rattle.client_responses.specs.Figure1.{Quorum, enough}
use Rattle.system.specs.declared.Event.{Event}
use Rattle.system.specs.declared.Event.TheVariants.{Try, Exit, Fall, Down, Up, Take, Drop, Miss, Check}
use Rattle.system.specs.declared.Setting.{Setting}
use Rattle.system.specs.Numbered.{has, client_no, server_no, span}
use Rattle.system.specs.Transit.{InTransit, pending, present}
use Rattle.system.specs.Setting.{takes}
use Rattle.system.specs.Places.{System}
use Rattle.system.specs.Events.{EventOutcome, need, event}
use Rattle.system.specs.Runs.{after, is_stepped, run_by, accepted_by, start}
use Rattle.system.proofs.Branch.{branch, perhaps}
use Rattle.system.proofs.Tokens.{All, empty, more}
use Rattle.system.proofs.Invariant.{most_prefix}
use Rattle.listing.specs.Listing.{each, events_of, candidates, follow, step, fresh, runs}
use Rattle.listing.specs.Order.{Short, Stands}
use Rattle.listing.proofs.Growth.{Led, led_start, led_next}
use Rattle.listing.proofs.Follow.{stands_among, among_stands, among-each, each-among, onward, onward-goes, goes-onward}

-- an accepted event is a candidate ------------------------------------------------------------------------------------------

-- a number from 1 to c
record Counted (c i : ℕ) : Type 0 where
  from : 0 < i
  to : i ≤ c

among-span : (a c i : ℕ) → a < i → i ≤ a + c → Among i (span a c)
among-span a zero i p q = absurd (omega arith)
among-span a (suc c) i p q =
    ⊎_elim (λ (t : eqb i (suc a) ≡ true). first (eqb-true i (suc a) t))
    (λ (t : eqb i (suc a) ≡ false). let ne = eqb-false i (suc a) t in later (among-span (suc a) c i (omega arith) (omega arith)))
    (decided (eqb i (suc a)))

named : (f : ℕ → Event) {c i : ℕ} → Counted c i → Among (f i) (map f (span 0 c))
named f {c} {i} h = map-among f (among-span 0 c i h.from (omega (arith, h.to)))

has-counted : {A : Type 0} (l : List A) (i : ℕ) → has l i ≡ true → Counted (length l) i
has-counted l i h =
    let (a, b) = both (ltb 0 i) (leb i (length l)) h in
    record { from = ltb-true 0 i a; to = leb-true i (length l) b }

-- the events of each name
abbrev groups : ℕ → ℕ → ℕ → List (List Event)
groups clients servers messages =
    map (λ k. Try (client_no k)) (span 0 clients) ∷ map (λ k. Exit (client_no k)) (span 0 clients) ∷ map (λ k. Fall (client_no k)) (span 0 clients) ∷
    map (λ j. Down (server_no j)) (span 0 servers) ∷ map (λ j. Up (server_no j)) (span 0 servers) ∷ map takes (span 0 messages) ∷
    map (λ i. Drop (record { 0 = i })) (span 0 messages) ∷ map (λ j. Miss (server_no j)) (span 0 servers) ∷
    map (λ j. Check (server_no j)) (span 0 servers) ∷ []

groups-joined : (clients servers messages : ℕ) → each (λ g. g) (groups clients servers messages) ≡ events_of clients servers messages
unfolding events_of
groups-joined clients servers messages = rw append-nil

among_group : {e : Event} (gs : List (List Event)) (r : ℕ) → Among e (get_or gs r []) → Among e (each (λ g. g) gs)
among_group [] r m = m
among_group (g ∷ gs) zero m = append_left (each (λ g. g) gs) m
among_group (g ∷ gs) (suc r) m = append_right g (among_group gs r m)

-- the first thing that an event needs
needed : (b : Bool) (x : Refusal) (o : EventOutcome) → is_stepped (need b x o) ≡ true → b ≡ true
needed true x o h = refl
needed false x o h = absurd (false≢true h)

-- a message in transit
module _ (P : ℕ → Type 0) (i : ℕ) where
  present-number : {l : List InTransit} → All (λ x. P x.number) l → present i l ≡ true → P i
  present-number empty h = absurd (false≢true h)
  present-number (more {x = x} {l = l} p t) h =
      branch (λ b. b ≡ true → P i) (eqb x.number i) (λ e _. rw (eqb-true x.number i e) at p) (λ _ g. present-number t g) h

pending-present : (i : ℕ) {m : Message} (l : List InTransit) → pending i l ≡ Some m → present i l ≡ true
unfolding pending
pending-present i [] h = absurd (let z : ◌≡◌ {A = ℕ} 0 1 = cc in omega arith)
pending-present i {m} (x ∷ l) h =
    ⊎_elim (λ (t : eqb x.number i ≡ true). rw t)
    (λ (t : eqb x.number i ≡ false). rw t (pending-present i l (rw t at h)))
    (decided (eqb x.number i))

module _ {n : ℕ} {wins : Quorum} {clients i : ℕ} {w : System} (l : Led n wins clients i w) where
  of_rank : {e : Event} (r : ℕ) → Among e (get_or (groups (length w.clients) (length w.servers) w.sent) r []) → Among e (candidates w)
  of_rank r m =
      let gs : List (List Event) = groups (length w.clients) (length w.servers) w.sent in
      rw (← groups-joined (length w.clients) (length w.servers) w.sent) (among_group gs r m)

  in_transit_lem : (j : ℕ) → present j w.transit ≡ true → Counted w.sent j
  in_transit_lem j h =
      record { from = present-number (λ x. 0 < x) j l.tidy.positive h; to = present-number (λ x. x ≤ w.sent) j l.sized.counts.numbers h }

  accepted_candidate : (e : Event) → is_stepped (event n wins w e) ≡ true → Among e (candidates w)
  unfolding event
  accepted_candidate (Try k) h = of_rank 0 (named (λ x. Try (client_no x)) (has-counted w.clients k.0 (needed _ _ _ h)))
  accepted_candidate (Exit k) h = of_rank 1 (named (λ x. Exit (client_no x)) (has-counted w.clients k.0 (needed _ _ _ h)))
  accepted_candidate (Fall k) h = of_rank 2 (named (λ x. Fall (client_no x)) (has-counted w.clients k.0 (needed _ _ _ h)))
  accepted_candidate (Down j) h = of_rank 3 (named (λ x. Down (server_no x)) (has-counted w.servers j.0 (needed _ _ _ h)))
  accepted_candidate (Up j) h = of_rank 4 (named (λ x. Up (server_no x)) (has-counted w.servers j.0 (needed _ _ _ h)))
  accepted_candidate (Take j) h =
      of_rank 5 (named takes (in_transit_lem j.0
      (perhaps (λ o. is_stepped o ≡ true → present j.0 w.transit ≡ true) (pending j.0 w.transit) (λ _ g. absurd (false≢true g))
      (λ m e _. pending-present j.0 w.transit e) h)))
  accepted_candidate (Drop j) h = of_rank 6 (named (λ x. Drop (record { 0 = x })) (in_transit_lem j.0 (needed _ _ _ h)))
  accepted_candidate (Miss j) h = of_rank 7 (named (λ x. Miss (server_no x)) (has-counted w.servers j.0 (needed _ _ _ h)))
  accepted_candidate (Check j) h = of_rank 8 (named (λ x. Check (server_no x)) (has-counted w.servers j.0 (needed _ _ _ h)))

-- the listed and the short ----------------------------------------------------------------------------------------------------

module _ (s : Setting) where
  -- at most so many events, accepted from w on, within f servers down
  record Accepted (left : ℕ) (w : System) (es : List Event) : Type 0 where
    few : length es ≤ left
    all : accepted_by (step s) w es ≡ true
    within : (run_by (step s) w es).most ≤ s.f

  accepted-none : (left : ℕ) {w : System} → w.most ≤ s.f → Accepted left w []
  unfolding accepted_by run_by
  accepted-none left h = record { few = zero-le; all = refl; within = h }

  accepted-more : {left : ℕ} {w : System} (e : Event) (es : List Event) → is_stepped (step s w e) ≡ true → Accepted left (after w (step s w e)) es
      → Accepted (suc left) w (e ∷ es)
  unfolding accepted_by run_by
  accepted-more e es h a = record { few = omega (arith, a.few); all = rw h a.all; within = a.within }

  only : (left : ℕ) (w : System) (es : List Event) → w.most ≤ s.f → Among es ([] ∷ follow (step s) s.f left w) → Accepted left w es
  unfolding follow
  only zero w es h m =
      ⊎_elim (λ (e : es ≡ []). rw e (accepted-none 0 h)) (λ (n : Among es []). absurd (none-among n)) (cons-cases m)
  only (suc left) w es h m =
      ⊎_elim (λ (e : es ≡ []). rw e (accepted-none (suc left) h))
      (λ (n : Among es (each (onward (step s) s.f left w) (candidates w))).
      let (e, a, b) = each-among (onward (step s) s.f left w) (candidates w) n in
      let g = onward-goes (step s) s.f left w e b in
      let v = after w (step s w e) in
      let (c, d) = both (is_stepped (step s w e)) (leb v.most s.f) g.goes in
      rw (← g.begins) (accepted-more e g.rest c (only left v g.rest (leb-true v.most s.f d) g.follows)))
      (cons-cases m)

  all : (left i : ℕ) (w : System) (es : List Event) → Led s.n (enough s.m) s.clients i w → Accepted left w es
      → Among es ([] ∷ follow (step s) s.f left w)
  unfolding follow accepted_by run_by
  all left i w [] l a = first refl
  all zero i w (e ∷ es) l a = absurd (omega (arith, a.few))
  all (suc left) i w (e ∷ es) l a =
      let v = after w (step s w e) in
      let (c, d) = both (is_stepped (step s w e)) (accepted_by (step s) v es) a.all in
      let on : v.most ≤ s.f = omega (arith, most_prefix s.n (enough s.m) v [] es, a.within) in
      later (among-each (onward (step s) s.f left w) (accepted_candidate l e c)
      (goes-onward (step s) s.f left w (record {
        goes = rw (c, le-leb v.most s.f on);
        rest = es;
        begins = refl;
        follows = all left (suc i) v es (led_next e l) (record { few = omega (arith, a.few); all = d; within = a.within });
      })))

pub listed_only : (s : Setting) (events : ℕ) (es : List Event) → Stands es (runs s events) → Short s events es
unfolding start
listed_only s events es m =
    let a = only s events (fresh s) es zero-le (stands_among m) in record { few = a.few; all_accepted = a.all; is_run = a.within }

pub listed-all : (s : Setting) (events : ℕ) (es : List Event) → Short s events es → Stands es (runs s events)
listed-all s events es h =
    among_stands (all s events 0 (fresh s) es led_start (record { few = h.few; all = h.all_accepted; within = h.is_run }))
