-- The listing ascends: the events that can be next do, by name and number, and what goes on with one of them precedes what goes on with a later one.
-- Nothing precedes itself, so none stands twice, and an ascending list is known by what stands in it.
use mathlib.Core.Path.{◌≡◌, refl, sym, ◌∙◌}
use mathlib.Core.Logic.{⊎_elim}
use Prim.Native.Nat.{ℕ, zero, suc, ◌≤◌, ◌<◌}
use native.Mathlib.Omega.{arith}
use mathlib.Core.List.Memᴰ.{append_cases}
use mathlib.Core.List.Memᴰ.{cases_cons as cons-cases}
use mathlib.Core.List.Memᴰ.{head as first}
use mathlib.Core.List.Memᴰ.{not-nil as none-among}
use mathlib.Core.List.Memᴰ.{of_map}
use mathlib.Core.List.Memᴰ.{tail as later}
use mathlib.Core.List.{List, [], ◌∷◌, ◌++◌, map, append-nil, Memᴰ as Among}
use Rattle.system.specs.declared.Event.{Event}
use Rattle.system.specs.declared.Event.TheVariants.{Try, Exit, Fall, Down, Up, Drop, Miss, Check}
use Rattle.system.specs.declared.Setting.{Setting}
use Rattle.system.specs.Numbered.{client_no, server_no, span}
use Rattle.system.specs.Setting.{takes}
use Rattle.system.specs.Places.{System}
use Rattle.system.specs.Events.{EventOutcome}
use Rattle.system.specs.Runs.{after}
use Rattle.system.proofs.Branch.{branch}
use Rattle.script_lines.specs.Printed.{number_of}
use Rattle.listing.specs.Listing.{each, events_of, candidates, goes_on, follow, step, fresh, runs}
use Rattle.listing.specs.Order.{Short, rank, Before, by_name, by_number, Precedes, beginning, differing, alike, Stands, Ahead, Ascends, no_runs, one_more, Once, none_twice, one_once}
use Rattle.listing.proofs.Follow.{stands_among, among_stands, each-among, onward, onward-goes}
use Rattle.listing.proofs.Exact.{listed_only, listed-all}

-- the order -----------------------------------------------------------------------------------------------------------------

before_not_both : (a b : Event) → Before a b → Before b a → ⊥
before_not_both a b (by_name p) (by_name q) = omega arith
before_not_both a b (by_name p) (by_number q x) = omega arith
before_not_both a b (by_number p x) (by_name q) = omega arith
before_not_both a b (by_number p x) (by_number q y) = omega arith

-- two lists that each precede the other
not_both-at : {xs ys us vs : List Event} → Precedes xs ys → Precedes us vs → us ≡ ys → vs ≡ xs → ⊥
not_both-at beginning beginning e f = cc
not_both-at beginning (differing q) e f = cc
not_both-at beginning (alike q) e f = cc
not_both-at (differing p) beginning e f = cc
not_both-at (alike p) beginning e f = cc
not_both-at (differing {a = a} {b = b} p) (differing {a = c} {b = d} q) e f =
    let h : c ≡ b = cc in let k : d ≡ a = cc in before_not_both a b p (rw (h, k) at q)
not_both-at (differing {a = a} {b = b} p) (alike {e = c} q) e f =
    let h : a ≡ c = cc in let k : b ≡ c = cc in let r : Before c c = rw (h, k) at p in before_not_both c c r r
not_both-at (alike {e = c} p) (differing {a = a} {b = b} q) e f =
    let h : a ≡ c = cc in let k : b ≡ c = cc in let r : Before c c = rw (h, k) at q in before_not_both c c r r
not_both-at (alike {xs = xs} {ys = ys} p) (alike {xs = us} {ys = vs} q) e f =
    let h : us ≡ ys = cc in let k : vs ≡ xs = cc in not_both-at p q h k

not_both : {xs ys : List Event} → Precedes xs ys → Precedes ys xs → ⊥
not_both p q = not_both-at p q refl refl

-- the events of a setting ---------------------------------------------------------------------------------------------------

-- each event is before all behind it
data Rising : List Event → Type 0 where
  none : Rising []
  one : {e : Event} {es : List Event} → ((x : Event) → Among x es → Before e x) → Rising es → Rising (e ∷ es)

-- and none has a name before the one of rank r
record From (r : ℕ) (es : List Event) : Type 0 where
  rising : Rising es
  named : (x : Event) → Among x es → r ≤ rank x

span-above : (a c i : ℕ) → Among i (span a c) → a < i
span-above a zero i m = absurd (none-among m)
span-above a (suc c) i m =
    ⊎_elim (λ (e : i ≡ suc a). omega arith) (λ (n : Among i (span (suc a) c)). omega (arith, span-above (suc a) c i n)) (cons-cases m)

-- the events of one name, and later names behind them
module _ (r : ℕ) (f : ℕ → Event) (name : (i : ℕ) → rank (f i) ≡ r) (number : (i : ℕ) → number_of (f i) ≡ i) {es : List Event} (rest : From (suc r) es) where
  named-before : (a c : ℕ) (x : Event) → Among x (map f (span (suc a) c) ++ es) → Before (f (suc a)) x
  named-before a c x m =
      ⊎_elim
      (λ (n : Among x (map f (span (suc a) c))).
      let (i, k, e) = of_map f (span (suc a) c) n in
      rw (← e) (by_number (name (suc a) ∙ sym (name i)) (omega (arith, number (suc a), number i, span-above (suc a) c i k))))
      (λ (n : Among x es). by_name (omega (arith, name (suc a), rest.named x n)))
      (append_cases (map f (span (suc a) c)) m)

  named_rising : (a c : ℕ) → Rising (map f (span a c) ++ es)
  named_rising a zero = rest.rising
  named_rising a (suc c) = one (named-before a c) (named_rising (suc a) c)

  from_name : (c : ℕ) → From r (map f (span 0 c) ++ es)
  from_name c =
      record {
        rising = named_rising 0 c;
        named = λ x m. ⊎_elim
            (λ (n : Among x (map f (span 0 c))). let (i, k, e) = of_map f (span 0 c) n in rw (← e) (omega (arith, name i)))
            (λ (n : Among x es). omega (arith, rest.named x n))
            (append_cases (map f (span 0 c)) m);
      }

-- Events ascend by name and number.
rising_events : (clients servers messages : ℕ) → Rising (events_of clients servers messages)
unfolding events_of
rising_events clients servers messages =
    let checks : From 8 (map (λ j. Check (server_no j)) (span 0 servers)) =
    rw append-nil at (from_name 8 (λ j. Check (server_no j)) (λ _. refl) (λ _. refl) (record { rising = none; named = λ x m. absurd (none-among m) }) servers) in
    (from_name 0 (λ k. Try (client_no k)) (λ _. refl) (λ _. refl)
    (from_name 1 (λ k. Exit (client_no k)) (λ _. refl) (λ _. refl)
    (from_name 2 (λ k. Fall (client_no k)) (λ _. refl) (λ _. refl)
    (from_name 3 (λ j. Down (server_no j)) (λ _. refl) (λ _. refl)
    (from_name 4 (λ j. Up (server_no j)) (λ _. refl) (λ _. refl)
    (from_name 5 takes (λ _. refl) (λ _. refl)
    (from_name 6 (λ i. Drop (record { 0 = i })) (λ _. refl) (λ _. refl)
    (from_name 7 (λ j. Miss (server_no j)) (λ _. refl) (λ _. refl) checks servers)
    messages) messages) servers) servers) clients) clients) clients).rising

-- the listing ---------------------------------------------------------------------------------------------------------------

ascends_append : {a b : List (List Event)} → Ascends a → Ascends b → ((x y : List Event) → Among x a → Among y b → Precedes x y) → Ascends (a ++ b)
ascends_append no_runs B h = B
ascends_append {b = b} (one_more {es = x} {rs = a} ahead A) B h =
    one_more (λ y s. ⊎_elim (λ (m : Among y a). ahead y (among_stands m)) (λ (m : Among y b). h x y (first refl) m) (append_cases a (stands_among s)))
    (ascends_append A B (λ u v m n. h u v (later m) n))

ascends_map : (e : Event) {rs : List (List Event)} → Ascends rs → Ascends (map (λ es. e ∷ es) rs)
ascends_map e no_runs = no_runs
ascends_map e (one_more {es = x} {rs = rs} ahead A) =
    one_more {es = e ∷ x} (λ y s. let (z, m, q) = of_map (λ es. e ∷ es) rs (stands_among s) in rw (← q) (alike (ahead z (among_stands m)))) (ascends_map e A)

module _ (step : System → Event → EventOutcome) (f : ℕ) where
  ascends_each : (left : ℕ) (w : System) → ((e : Event) → Ascends (onward step f left w e)) → {l : List Event} → Rising l
      → Ascends (each (onward step f left w) l)
  ascends_each left w h none = no_runs
  ascends_each left w h (one {e = e} {es = l} ahead R) =
      ascends_append (h e) (ascends_each left w h R) (λ x y m n.
      let g = onward-goes step f left w e m in
      let (d, o, k) = each-among (onward step f left w) l n in
      let g' = onward-goes step f left w d k in
      rw (← g.begins, ← g'.begins) (differing (ahead d o)))

  -- each has a first event
  empty-ahead : (left : ℕ) (w : System) → Ahead [] (follow step f left w)
  unfolding follow
  empty-ahead zero w xs s = absurd (none-among (stands_among s))
  empty-ahead (suc left) w xs s =
      let (e, o, k) = each-among (onward step f left w) (candidates w) (stands_among s) in
      rw (← (onward-goes step f left w e k).begins) beginning

  follow_ascends : (left : ℕ) (w : System) → Ascends (follow step f left w)
  unfolding follow
  follow_ascends zero w = no_runs
  follow_ascends (suc left) w =
      ascends_each left w (λ e. branch Ascends (goes_on step f w e)
      (λ _. ascends_map e (one_more (empty-ahead left (after w (step w e))) (follow_ascends left (after w (step w e))))) (λ _. no_runs))
      (rising_events _ _ _)

pub ascends : (s : Setting) (events : ℕ) → Ascends (runs s events)
ascends s events = one_more (empty-ahead (step s) s.f events (fresh s)) (follow_ascends (step s) s.f events (fresh s))

ascending-once : {rs : List (List Event)} → Ascends rs → Once rs
ascending-once no_runs = none_twice
ascending-once (one_more {es = es} ahead A) = one_once (λ s. not_both (ahead es s) (ahead es s)) (ascending-once A)

pub once : (s : Setting) (events : ℕ) → Once (runs s events)
once s events = ascending-once (ascends s events)

-- ascending lists with the same members
abbrev Within : List (List Event) → List (List Event) → Type 0
Within a b = (es : List Event) → Among es a → Among es b

module _ {x y : List Event} {a b : List (List Event)} (ahead : Ahead x a) (also : Ahead y b) where
  same_first : Among x (y ∷ b) → Among y (x ∷ a) → x ≡ y
  same_first m n =
      ⊎_elim (λ (e : x ≡ y). e)
      (λ (u : Among x b). ⊎_elim (λ (e : y ≡ x). sym e)
      (λ (v : Among y a). absurd (not_both (ahead y (among_stands v)) (also x (among_stands u)))) (cons-cases n))
      (cons-cases m)

  same_rest : x ≡ y → Within (x ∷ a) (y ∷ b) → Within a b
  same_rest e h z m =
      ⊎_elim (λ (q : z ≡ y). let p : Precedes x x = rw (q ∙ sym e) at (ahead z (among_stands m)) in absurd (not_both p p)) (λ (n : Among z b). n)
      (cons-cases (h z (later m)))

same-ascending : {a b : List (List Event)} → Ascends a → Ascends b → Within a b → Within b a → a ≡ b
same-ascending no_runs no_runs h k = refl
same-ascending no_runs (one_more {es = y} _ _) h k = absurd (none-among (k y (first refl)))
same-ascending (one_more {es = x} _ _) no_runs h k = absurd (none-among (h x (first refl)))
same-ascending (one_more {es = x} u A) (one_more {es = y} v B) h k =
    let e = same_first u v (h x (first refl)) (k y (first refl)) in
    let t = same-ascending A B (same_rest u v e h) (same_rest v u (sym e) k) in
    cc

pub the_listing : (s : Setting) (events : ℕ) (rs : List (List Event)) → Ascends rs → ((es : List Event) → Stands es rs → Short s events es)
    → ((es : List Event) → Short s events es → Stands es rs) → rs ≡ runs s events
the_listing s events rs A only all =
    same-ascending A (ascends s events) (λ es m. stands_among (listed-all s events es (only es (among_stands m))))
    (λ es m. stands_among (all es (listed_only s events es (among_stands m))))
