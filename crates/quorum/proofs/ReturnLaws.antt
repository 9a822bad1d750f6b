-- Each return of the calls is one case of its definition.
use Rattle.ids.specs.declared.Refusal.{Refusal}
use Rattle.std.specs.Prelude.{Ok, Err, Result, Some, None}
use mathlib.Core.Path.{◌≡◌, sym, ◌∙◌}
use mathlib.Core.Logic.{inl, inr}
use Prim.Native.Nat.{ℕ, ◌+◌, ◌*◌, ◌-◌, ◌/◌, ◌≤◌, ◌<◌}
use native.Mathlib.Omega.{arith}
use mathlib.Core.Bool.{Bool, true, false}
use lib.Dec.{leb}
use lib.IntN.{ℤ}
use lib.ListN.{length}
use borrow.Author.Tests.{le-leb, lt-leb, lt-ltb, le-ltb, leb-true, leb-false, ltb-true}
use mir.Syntax.{w32}
use mir.Val.{to_z, of_z}
use Rattle.ids.specs.Limits.{within, max_servers}
use Rattle.ids.specs.declared.Refusal.TheVariants.{ParameterOutOfRange, NoSuchParty}
use Rattle.ids.proofs.Choice.{decided, both, holds, fails, Test, clash}
use Rattle.system.specs.declared.Event.{Event as Happening, Event}
use Rattle.system.specs.declared.Event.TheVariants.{Try, Down, Up}
use Rattle.system.specs.Setting.{takes, lost, unsafe_run}
use Rattle.quorum.proofs.Settings.{shows-unsafe, unsafe_iff, stalls_iff}
use Rattle.quorum.specs.declared.Verdict.{Verdict}
use Rattle.quorum.specs.declared.Verdict.TheVariants.{Accepted, Unsafe, Stalls, OutOfRange}
use Rattle.quorum.specs.Check.{in_range_up_to, in_range, margin, is_unsafe, is_stalling, judged, verdict, number_of, Demand3}
use Rattle.quorum.specs.Run.{listed_event, run_event}
use Rattle.quorum.specs.Inner.{run_length, longest_run, first_entry, restart, second_entry, event_at}
use Rattle.quorum.specs.Threshold.{threshold_of}
use Rattle.quorum.proofs.Listing.{unsafe-length, unsafe-at}
use Rattle.quorum.proofs.CheckLaws.{Range, range, margin-kept, is-unsafe, is_safe, unsafe_test}
use Rattle.system.specs.Numbered.{client_no, server_no}

-- in_range_up_to
module _ (limit n m f : ℕ) (x : Bool) (p : x ≡ within n limit) where
  pub no_servers_lem : x ≡ false → false ≡ in_range_up_to limit n m f
  unfolding in_range_up_to
  no_servers_lem t = rw (fails x (within n limit) p t)

  module _ (y : Bool) (t : x ≡ true) (q : y ≡ within m n) where
    pub no_threshold : y ≡ false → false ≡ in_range_up_to limit n m f
    unfolding in_range_up_to
    no_threshold u = rw (holds x (within n limit) p t, fails y (within m n) q u)

    pub faults_decide : y ≡ true → leb f n ≡ in_range_up_to limit n m f
    unfolding in_range_up_to
    faults_decide u = rw (holds x (within n limit) p t, holds y (within m n) q u)

-- judge
module _ (n m f : ℕ) (by : ℤ) (r : (n ≤ max_servers) × (m ≤ n) × (f ≤ n)) (e : by ≡ margin n m f) where
  abbrev given : ℤ
  given = to_z w32 (of_z w32 by)

  pub judge-unsafe : (count : ℕ) → 2 * m ≤ n + f → count ≡ run_length n m → ◌≡◌ {A = Verdict} (Unsafe given count) (judged n m f)
  unfolding judged
  judge-unsafe count h k = rw (is-unsafe n m f h, margin-kept n m f by r e, k, unsafe-length n m r.1)

  pub judge-stalls : n + f < 2 * m → n < m + f → ◌≡◌ {A = Verdict} (Stalls given) (judged n m f)
  unfolding judged
  judge-stalls h k = rw (is_safe n m f h, lt-ltb n (m + f) k, margin-kept n m f by r e)

  pub judge-accepts : n + f < 2 * m → m + f ≤ n → ◌≡◌ {A = Verdict} (Accepted given) (judged n m f)
  unfolding judged
  judge-accepts h k = rw (is_safe n m f h, le-ltb n (m + f) k, margin-kept n m f by r e)

-- Demand 3, of the arithmetic answer
module _ (n m f : ℕ) where
  number_8 : number_of (judged n m f) ≡ 8 → is_unsafe n m f ≡ true
  unfolding judged
  number_8 e = go (decided (is_unsafe n m f)) (decided (is_stalling n m f))
    where
      go : Test (is_unsafe n m f) → Test (is_stalling n m f) → is_unsafe n m f ≡ true
      go (inl t) u = t
      go (inr t) (inl u) = let z : ◌≡◌ {A = ℕ} 9 8 = rw (t, u) at e in absurd (omega arith)
      go (inr t) (inr u) = let z : ◌≡◌ {A = ℕ} 0 8 = rw (t, u) at e in absurd (omega arith)

  number_9 : number_of (judged n m f) ≡ 9 → (is_unsafe n m f ≡ false) × (is_stalling n m f ≡ true)
  unfolding judged
  number_9 e = go (decided (is_unsafe n m f)) (decided (is_stalling n m f))
    where
      go : Test (is_unsafe n m f) → Test (is_stalling n m f) → (is_unsafe n m f ≡ false) × (is_stalling n m f ≡ true)
      go (inl t) u = let z : ◌≡◌ {A = ℕ} 8 9 = rw t at e in absurd (omega arith)
      go (inr t) (inl u) = (t, u)
      go (inr t) (inr u) = let z : ◌≡◌ {A = ℕ} 0 9 = rw (t, u) at e in absurd (omega arith)

  is_8 : is_unsafe n m f ≡ true → number_of (judged n m f) ≡ 8
  unfolding judged
  is_8 t = rw t

  is_9 : is_unsafe n m f ≡ false → is_stalling n m f ≡ true → number_of (judged n m f) ≡ 9
  unfolding judged
  is_9 t u = rw (t, u)

  margin_low : is_unsafe n m f ≡ true → 2 * m ≤ n + f
  margin_low t = leb-true (2 * m) (n + f) (sym (unsafe_test n m f) ∙ t)

  margin_high : is_unsafe n m f ≡ false → n + f < 2 * m
  margin_high t = leb-false (2 * m) (n + f) (sym (unsafe_test n m f) ∙ t)

  judged_demand : Range max_servers n m f → Demand3 n m f (judged n m f)
  judged_demand r =
      record {
        unsafe = λ _ clients two _. let u = unsafe_iff n m f clients r.positive r.threshold two in
            (λ e. u.1 (margin_low (number_8 e)), λ x. is_8 (is-unsafe n m f (u.0 x)));
        shown = λ _ clients two _ e. shows-unsafe n m f clients r.positive r.threshold two (margin_low (number_8 e));
        stalls = λ _ clients two _. let u = unsafe_iff n m f clients r.positive r.threshold two in
            let s = stalls_iff n m f clients r.positive r.faults (omega arith) in (
              λ e. let b = number_9 e in
                  (λ x. let h = u.0 x in let l = margin_high b.0 in omega arith, s.1 (ltb-true n (m + f) b.1)),
              λ x. go x.0 (s.0 x.1) (decided (is_unsafe n m f)) clients two u.1,
            );
      }
    where
      go : {U : Type 0} → (U → ⊥) → n < m + f → Test (is_unsafe n m f) → (clients : ℕ) → 2 ≤ clients → (2 * m ≤ n + f → U) → number_of (judged n m f) ≡ 9
      go never lt (inl t) clients two make = absurd (never (make (margin_low t)))
      go never lt (inr t) clients two make = is_9 t (lt-ltb n (m + f) lt)

-- check
module _ (n m f : ℕ) (x : Bool) (p : x ≡ in_range n m f) where
  pub check-refuses : x ≡ false → (OutOfRange ≡ verdict n m f) × Demand3 n m f OutOfRange
  unfolding verdict
  check-refuses t = let o = fails x (in_range n m f) p t in (
    rw o,
    record {
      unsafe = λ e. clash (in_range n m f) e o;
      shown = λ e. clash (in_range n m f) e o;
      stalls = λ e. clash (in_range n m f) e o;
    },
  )

  pub check_judges : (v : Verdict) → x ≡ true → v ≡ judged n m f → (v ≡ verdict n m f) × Demand3 n m f v
  unfolding verdict
  check_judges v t e = let i = holds x (in_range n m f) p t in
      (rw i e, rw e (judged_demand n m f (range max_servers n m f i)))

  pub in_bounds : x ≡ true → (n ≤ max_servers) × (m ≤ n) × (f ≤ n)
  in_bounds t = let r = range max_servers n m f (holds x (in_range n m f) p t) in (r.servers, r.threshold, r.faults)

  -- run_event
  pub event-refuses : (i : ℕ) → x ≡ false → Err ParameterOutOfRange ≡ run_event n m f i
  unfolding run_event
  event-refuses i t = rw (fails x (in_range n m f) p t)

  pub event-listed : (i : ℕ) (a : Result Event Refusal) → x ≡ true → a ≡ listed_event n m f i → a ≡ run_event n m f i
  unfolding run_event
  event-listed i a t e = rw (holds x (in_range n m f) p t) e

-- listed
module _ (n m f i : ℕ) where
  pub not_unsafe : n + f < 2 * m → Err NoSuchParty ≡ listed_event n m f i
  unfolding listed_event
  not_unsafe h = rw (is_safe n m f h)

  module _ (r : (n ≤ max_servers) × (m ≤ n) × (f ≤ n)) (h : 2 * m ≤ n + f) (count : ℕ) (k : count ≡ run_length n m) (x : Bool) (p : x ≡ within i count) where
    at_length : within i count ≡ within i (length (unsafe_run n m))
    at_length = rw (k, unsafe-length n m r.1)

    pub outside-run : x ≡ false → Err NoSuchParty ≡ listed_event n m f i
    unfolding listed_event
    outside-run t = rw (is-unsafe n m f h, sym at_length ∙ fails x (within i count) p t)

    pub inside-run : x ≡ true → (0 < i) × (i ≤ run_length n m)
    inside-run t = let b = both (leb 1 i) (leb i count) (holds x (within i count) p t) in (leb-true 1 i b.0, omega (arith, leb-true i count b.1, k))

    pub event_bounds : x ≡ true → (n ≤ max_servers) × (m ≤ n) × (i ≤ longest_run)
    event_bounds t = (r.0, r.1, omega (arith, (inside-run t).1, r.0, r.1))

    pub run_element : (e : Happening) → x ≡ true → e ≡ event_at n m i → Ok e ≡ listed_event n m f i
    unfolding listed_event
    run_element e t q =
        let b = inside-run t in
        rw (is-unsafe n m f h, sym at_length ∙ holds x (within i count) p t, unsafe-at n m r.1 (Try (client_no 1)) i b.0 b.1, q)

-- events of the run
module _ (n m i : ℕ) (e : Happening) where
  pub first_try : i ≤ 1 → e ≡ Try (client_no 1) → e ≡ first_entry n m i
  unfolding first_entry
  first_try h q = rw (le-leb i 1 h) q

  pub first-asks : 1 < i → i ≤ 1 + m → e ≡ takes (i - 1) → e ≡ first_entry n m i
  unfolding first_entry
  first-asks g h q = rw (lt-leb i 1 g, le-leb i (1 + m) h) q

  pub first-hears : 1 < i → 1 + m < i → e ≡ takes (n + (i - (1 + m))) → e ≡ first_entry n m i
  unfolding first_entry
  first-hears g h q = rw (lt-leb i 1 g, lt-leb i (1 + m) h) q

module _ (l i : ℕ) where
  pub restart-down : i ≤ l → Down (server_no i) ≡ restart l i
  unfolding restart
  restart-down h = rw (le-leb i l h)

  pub restart-up : l < i → Up (server_no (i - l)) ≡ restart l i
  unfolding restart
  restart-up h = rw (lt-leb i l h)

module _ (n m l i : ℕ) (e : Happening) where
  pub second_try : i ≤ 1 → e ≡ Try (client_no 2) → e ≡ second_entry n m l i
  unfolding second_entry
  second_try h q = rw (le-leb i 1 h) q

  pub second-again : 1 < i → i ≤ 1 + l → e ≡ takes (n + m + (i - 1)) → e ≡ second_entry n m l i
  unfolding second_entry
  second-again g h q = rw (lt-leb i 1 g, le-leb i (1 + l) h) q

  pub second-asks : 1 < i → 1 + l < i → i ≤ 1 + m → e ≡ takes (n + m + (m + (i - (1 + l)))) → e ≡ second_entry n m l i
  unfolding second_entry
  second-asks g g' h q = rw (lt-leb i 1 g, lt-leb i (1 + l) g', le-leb i (1 + m) h) q

  pub second-hears : 1 < i → 1 + l < i → 1 + m < i → e ≡ takes (n + m + n + (i - (1 + m))) → e ≡ second_entry n m l i
  unfolding second_entry
  second-hears g g' h q = rw (lt-leb i 1 g, lt-leb i (1 + l) g', lt-leb i (1 + m) h) q

module _ (n m i : ℕ) (e : Happening) where
  pub in_first : i ≤ 1 + 2 * m → e ≡ first_entry n m i → e ≡ event_at n m i
  unfolding event_at
  in_first h q = rw (le-leb i (1 + 2 * m) h) q

  module _ (g : 1 + 2 * m < i) (l : ℕ) (k : l ≡ lost n m) where
    pub in_restart : i ≤ 1 + 2 * m + 2 * l → e ≡ restart l (i - (1 + 2 * m)) → e ≡ event_at n m i
    unfolding event_at
    in_restart h q = rw (lt-leb i (1 + 2 * m) g, ← k, le-leb i (1 + 2 * m + 2 * l) h) q

    pub in_second : 1 + 2 * m + 2 * l < i → e ≡ second_entry n m l (i - (1 + 2 * m + 2 * l)) → e ≡ event_at n m i
    unfolding event_at
    in_second h q = rw (lt-leb i (1 + 2 * m) g, ← k, lt-leb i (1 + 2 * m + 2 * l) h) q

-- default_threshold
module _ (n : ℕ) (x : Bool) (p : x ≡ within n max_servers) where
  pub no_default : x ≡ false → None ≡ threshold_of n
  unfolding threshold_of
  no_default t = rw (fails x (within n max_servers) p t)

  pub few_servers : x ≡ true → n ≤ max_servers
  few_servers t = leb-true n max_servers (both (leb 1 n) (leb n max_servers) (holds x (within n max_servers) p t)).1

  pub default_given : x ≡ true → Some ((2 * n + 2) / 3) ≡ threshold_of n
  unfolding threshold_of
  default_given t = rw (holds x (within n max_servers) p t)
