-- A setting is accepted exactly if 2 m > n + f and m + f ≤ n: so the thresholds are those from the least above half of n + f to n − f, and
-- the default one is accepted exactly up to (n − 1) / 3 faults.
use Rattle.std.specs.Prelude.{Some, None, Option}
use mathlib.Core.Path.{◌≡◌, refl, sym, ap, ◌∙◌}
use mathlib.Core.Logic.{inl, inr}
use Prim.Native.Nat.{ℕ, ◌+◌, ◌*◌, ◌-◌, ◌/◌, ◌≤◌, ◌<◌}
use native.Mathlib.Omega.{arith}
use mathlib.Core.Bool.{Bool, true, false, false≢true, ◌&&◌}
use lib.Dec.{leb}
use borrow.Author.Tests.{le-leb, lt-leb, lt-ltb, le-ltb, leb-true, leb-false}
use Rattle.ids.specs.Limits.{within, max_servers}
use Rattle.ids.proofs.Choice.{decided, both, fails, of_choice, Test}
use Rattle.quorum.specs.Check.{in_range_up_to, in_range, is_unsafe, judged, verdict}
use Rattle.quorum.specs.Proposal.{is_accepted, Proposes, above_half, Bears, proposal_of, proposal_says, propose_says}
use Rattle.quorum.specs.Threshold.{threshold_of, TwoThirds, most_faults}
use Rattle.quorum.proofs.ThresholdLaws.{two_thirds}
use Rattle.quorum.specs.declared.Proposal.{Proposal}
use Rattle.quorum.specs.declared.Proposal.TheVariants.{Thresholds, NoThreshold, OutOfRange}
use Rattle.quorum.proofs.CheckLaws.{is-unsafe, is_safe}

-- what is not accepted, in range or not
module _ (n m f : ℕ) where
  unsafe-refused : 2 * m ≤ n + f → is_accepted (verdict n m f) ≡ false
  unfolding verdict judged
  unsafe-refused h = go (decided (in_range n m f))
    where
      go : Test (in_range n m f) → is_accepted (verdict n m f) ≡ false
      go (inl t) = rw (t, is-unsafe n m f h)
      go (inr t) = rw t

  stalling_refused : n < m + f → is_accepted (verdict n m f) ≡ false
  unfolding verdict judged
  stalling_refused h = go (decided (in_range n m f)) (decided (is_unsafe n m f))
    where
      go : Test (in_range n m f) → Test (is_unsafe n m f) → is_accepted (verdict n m f) ≡ false
      go (inl t) (inl u) = rw (t, u)
      go (inl t) (inr u) = rw (t, u, lt-ltb n (m + f) h)
      go (inr t) u = rw t

  no_servers-refused : within n max_servers ≡ false → is_accepted (verdict n m f) ≡ false
  unfolding verdict in_range_up_to
  no_servers-refused e = rw e

-- what is
module _ (n m f : ℕ) (servers : within n max_servers ≡ true) where
  fit_accepted : n + f < 2 * m → m + f ≤ n → is_accepted (verdict n m f) ≡ true
  unfolding verdict judged in_range_up_to
  fit_accepted g h =
      rw (servers, le-leb 1 m (omega arith), le-leb m n (omega arith), le-leb f n (omega arith), is_safe n m f g, le-ltb n (m + f) h)

  -- the test that every setting of n servers in range comes to
  pub accepted_test : is_accepted (verdict n m f) ≡ leb (above_half (n + f)) m && leb (m + f) n
  accepted_test = go (decided (leb (above_half (n + f)) m)) (decided (leb (m + f) n))
    where
      go : Test (leb (above_half (n + f)) m) → Test (leb (m + f) n) → is_accepted (verdict n m f) ≡ leb (above_half (n + f)) m && leb (m + f) n
      go (inl t) (inl u) = rw (t, u) (fit_accepted (omega (arith, leb-true (above_half (n + f)) m t)) (leb-true (m + f) n u))
      go (inl t) (inr u) = rw (t, u) (stalling_refused n m f (leb-false (m + f) n u))
      go (inr t) u = rw t (unsafe-refused n m f (omega (arith, leb-false (above_half (n + f)) m t)))

-- propose
module _ (n f : ℕ) where
  abbrev least : ℕ
  least = above_half (n + f)

  proposal-row : proposal_says (proposal_of n f) ≡ propose_says n f
  unfolding proposal_of propose_says
  proposal-row =
      of_choice proposal_says (within n max_servers && leb f n) _ OutOfRange
      (of_choice proposal_says (leb (least + f) n) (Thresholds least (n - f)) NoThreshold refl refl) refl

  abbrev Said : Proposal → Type 0
  Said r = ((r ≡ proposal_of n f) × Proposes n f r) × (proposal_says r ≡ propose_says n f)

  said : (r : Proposal) → r ≡ proposal_of n f → Proposes n f r → Said r
  said r e h = ((e, h), ap proposal_says e ∙ proposal-row)

  none-fits : n < least + f → Proposes n f NoThreshold
  none-fits h m = go (decided (leb (2 * m) (n + f)))
    where
      go : Test (leb (2 * m) (n + f)) → false ≡ is_accepted (verdict n m f)
      go (inl t) = sym (unsafe-refused n m f (leb-true (2 * m) (n + f) t))
      go (inr t) = sym (stalling_refused n m f (omega (arith, leb-false (2 * m) (n + f) t)))

  some_fit : within n max_servers ≡ true → f ≤ n → Proposes n f (Thresholds least (n - f))
  some_fit servers h m = go (decided (leb (m + f) n))
    where
      go : Test (leb (m + f) n) → leb least m && leb m (n - f) ≡ is_accepted (verdict n m f)
      go (inl t) = rw (accepted_test n m f servers, t, le-leb m (n - f) (omega (arith, leb-true (m + f) n t)))
      go (inr t) = rw (accepted_test n m f servers, t, lt-leb m (n - f) (omega (arith, leb-false (m + f) n t)))

  pub proposes_no_servers : (x : Bool) → x ≡ within n max_servers → x ≡ false → Said OutOfRange
  unfolding proposal_of
  proposes_no_servers x p t = let e = fails x (within n max_servers) p t in said OutOfRange (rw e) (λ m. sym (no_servers-refused n m f e))

  module _ (servers : within n max_servers ≡ true) where
    pub proposes_no_faults : n < f → Said OutOfRange
    unfolding proposal_of
    proposes_no_faults h = said OutOfRange (rw (servers, lt-leb f n h)) (λ m. sym (stalling_refused n m f (omega arith)))

    module _ (h : f ≤ n) (a : ℕ) (e : a ≡ least) where
      pub proposes_none : n < a + f → Said NoThreshold
      unfolding proposal_of
      proposes_none g = said NoThreshold (rw (servers, le-leb f n h, ← e, lt-leb (a + f) n g)) (none-fits (omega arith))

      pub proposes_some : a + f ≤ n → Said (Thresholds a (n - f))
      unfolding proposal_of
      proposes_some g = rw e (said (Thresholds least (n - f)) (rw (servers, le-leb f n h, le-leb (least + f) n (omega arith))) (some_fit servers h))

-- most_faults: the default threshold, which is two thirds of n, is accepted exactly up to so many faults
module _ (n t f : ℕ) (servers : within n max_servers ≡ true) (h : TwoThirds n t) where
  default_accepted : is_accepted (verdict n t f) ≡ leb f (most_faults n)
  default_accepted = go (decided (leb f (most_faults n)))
    where
      some : 0 < n
      some = leb-true 1 n (both (leb 1 n) (leb n max_servers) servers).0

      beyond : most_faults n < f → Test (leb (2 * t) (n + f)) → is_accepted (verdict n t f) ≡ false
      beyond g (inl u) = unsafe-refused n t f (leb-true (2 * t) (n + f) u)
      beyond g (inr u) = stalling_refused n t f (omega (arith, h.enough, h.least, g, leb-false (2 * t) (n + f) u))

      go : Test (leb f (most_faults n)) → is_accepted (verdict n t f) ≡ leb f (most_faults n)
      go (inl u) =
          let g = leb-true f (most_faults n) u in
          rw u (fit_accepted n t f servers (omega (arith, some, h.enough, g)) (omega (arith, some, h.least, g)))
      go (inr u) = rw u (beyond (leb-false f (most_faults n) u) (decided (leb (2 * t) (n + f))))

-- what a threshold is, and whether it is one
abbrev amount : Option ℕ → ℕ
amount (Some m) = m
amount None = 0

abbrev is_default : Option ℕ → Bool
is_default (Some m) = true
is_default None = false

pub bears : (n : ℕ) → Bears n (most_faults n)
unfolding threshold_of
bears n m f e = go (decided (within n max_servers))
  where
    go : Test (within n max_servers) → is_accepted (verdict n m f) ≡ leb f (most_faults n)
    go (inl u) = let q : (2 * n + 2) / 3 ≡ m = ap amount (rw u at e) in rw (← q) (default_accepted n ((2 * n + 2) / 3) f u (two_thirds n))
    go (inr u) = absurd (false≢true (ap is_default (rw u at e)))
