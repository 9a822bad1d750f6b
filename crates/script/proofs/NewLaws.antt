-- Words that are all 0 are a new script, which is valid and has taken in nothing; with the stage stored, they are one that has ended.
use mathlib.Core.Path.{◌≡◌, refl, ap, ◌∙◌}
use Prim.Native.Nat.{ℕ, zero, suc, ◌+◌, ◌≤◌}
use native.Mathlib.Omega.{arith}
use mathlib.Core.Bool.{true}
use mathlib.Core.List.{List, [], ◌∷◌}
use lib.Dec.{eqb}
use lib.ListN.{length, get_or, set, take, drop, replicate, length-replicate, get_or-replicate}
use borrow.Author.Tests.{eq-eqb}
use Rattle.ids.proofs.ListLaws.{every-same}
use Rattle.script_output.specs.Reader.{empty, closed, max_kept}
use Rattle.sim_layout.specs.Layout.{simulation_size}
use Rattle.script.specs.State.{head_in, kept_in, simulation_in, stage_of, view, valid, valid_idle, state_size, state_head, line_from, Head, stage_at, answered_at, accepted_at, holding_at, length_at, stage_running, stage_closed}
use Rattle.script.specs.Calls.{new_words}
use Rattle.script.proofs.StateLaws.{Is, view-is, valid-is, store-stage, from-facts}
use Rattle.script.proofs.LineLaws.{line-none}

-- a part of zeros is zeros
zeros-part : (a b n : ℕ) → a + b ≤ n → take b (drop a (replicate {A = ℕ} n 0)) ≡ replicate b 0
zeros-part zero zero n h = refl
zeros-part zero (suc b) zero h = absurd (omega arith)
zeros-part zero (suc b) (suc n) h = ap (λ (l : List ℕ). 0 ∷ l) (zeros-part zero b n (omega arith))
zeros-part (suc a) b zero h = absurd (omega arith)
zeros-part (suc a) b (suc n) h = zeros-part a b n (omega arith)

abbrev none : Head
none = record { stage = 0; answered = 0; accepted = 0; holding = 0; length = 0 }

zeros-head : (n : ℕ) → state_head ≤ n → head_in (replicate n 0) ≡ none
unfolding head_in
zeros-head n h =
    let word : (i : ℕ) → suc i ≤ state_head → get_or (replicate {A = ℕ} n 0) i 0 ≡ 0 = λ i lt. get_or-replicate n i 0 0 (omega (arith, lt, h)) in
    let a = word stage_at (omega arith) in
    let b = word answered_at (omega arith) in
    let c = word accepted_at (omega arith) in
    let d = word holding_at (omega arith) in
    let f = word length_at (omega arith) in
    λ i. record { stage = a i; answered = b i; accepted = c i; holding = d i; length = f i }

zeros_are : Is (replicate state_size 0) none (replicate max_kept 0) (replicate simulation_size 0)
unfolding kept_in simulation_in
zeros_are =
    record {
      long = length-replicate {A = ℕ} state_size 0;
      head = zeros-head state_size (omega arith);
      kept = zeros-part line_from max_kept state_size (omega arith);
      simulation = zeros-part state_head simulation_size state_size (omega arith);
    }

idle-valid : (h : Head) → h.answered ≡ 0 → h.accepted ≡ 0 → h.holding ≡ 0 → valid_idle h (replicate simulation_size 0) ≡ true
unfolding valid_idle
idle-valid h a b c = rw (eq-eqb h.answered 0 a, eq-eqb h.accepted 0 b, eq-eqb h.holding 0 c) (every-same (eqb 0) simulation_size 0 refl)

-- nothing is taken in, and no script runs
empty-valid : {w : List ℕ} (stage : ℕ) → stage ≤ stage_closed → (stage ≡ stage_running → ⊥)
    → Is w (record { stage = stage; answered = 0; accepted = 0; holding = 0; length = 0 }) (replicate max_kept 0) (replicate simulation_size 0)
    → valid w ≡ true
empty-valid stage few ne I =
    valid-is I ∙ from-facts _ (replicate max_kept 0) (replicate simulation_size 0)
    (record {
      stage = few;
      line = line-none (replicate max_kept 0) (every-same (eqb 0) max_kept 0 refl);
      runs = λ q. absurd (ne q);
      idles = λ q. idle-valid _ refl refl refl;
    })

module _ (w : List ℕ) (e : length w ≡ state_size) where
  new_words_lem : new_words w ≡ replicate state_size 0
  unfolding new_words
  new_words_lem = rw (eq-eqb (length w) state_size e)

  pub new_reader : view (new_words w) ≡ empty
  unfolding stage_of
  new_reader = ap view new_words_lem ∙ view-is zeros_are

  pub new_valid : valid (new_words w) ≡ true
  new_valid = ap valid new_words_lem ∙ empty-valid 0 (omega arith) (λ q. absurd (omega (arith, q))) zeros_are

pub closed-reader : view (set (replicate state_size 0) stage_at stage_closed) ≡ record { stage = closed; line = [] }
unfolding stage_of
closed-reader = view-is (store-stage zeros_are stage_closed)

pub closed-valid : valid (set (replicate state_size 0) stage_at stage_closed) ≡ true
closed-valid = empty-valid stage_closed (omega arith) (λ q. absurd (omega (arith, q))) (store-stage zeros_are stage_closed)
