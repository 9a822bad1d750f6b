-- The unsafe run's events, asked for by their numbers from 1 to the count that the check gives, are the unsafe run, of which demand 3 speaks.
use Rattle.ids.specs.declared.Refusal.{Refusal}
use Rattle.std.specs.Prelude.{Ok, Result}
use Prim.Native.Nat.{ℕ, suc, ◌+◌, ◌<◌}
use native.Mathlib.Omega.{arith}
use mathlib.Core.Path.{◌≡◌, refl, ap, ◌∙◌}
use mathlib.Core.Bool.{true, false}
use mathlib.Core.List.{List, [], ◌∷◌, map}
use mathlib.Core.Logic.{⊎_elim}
use lib.IntN.{ℤ}
use lib.ListN.{length, get_or}
use borrow.Author.Tests.{le-leb}
use Rattle.ids.proofs.Choice.{decided}
use Rattle.system.specs.declared.Event.{Event as Happening, Event}
use Rattle.system.specs.declared.Event.TheVariants.{Try}
use Rattle.system.specs.Numbered.{span, client_no}
use Rattle.system.specs.Setting.{unsafe_run}
use Rattle.quorum.specs.Check.{in_range, is_unsafe, is_stalling, judged, verdict}
use Rattle.quorum.specs.Run.{listed_event, run_event}
use Rattle.quorum.specs.declared.Verdict.TheVariants.{Unsafe}

-- answers that are the elements of a list, one after another
by_number : (d : Happening) (f : ℕ → Result Event Refusal) (a : ℕ) (l : List Happening) → ((i : ℕ) → i < length l → f (suc (a + i)) ≡ Ok (get_or l i d))
    → map f (span a (length l)) ≡ map Ok l
by_number d f a [] h = refl
by_number d f a (x ∷ l) h =
    let z : suc a ≡ suc (a + 0) = omega arith in
    let first : f (suc a) ≡ Ok x = ap f z ∙ h 0 (omega arith) in
    let moved : (i : ℕ) → suc (suc a + i) ≡ suc (a + suc i) = λ i. omega arith in
    let rest = by_number d f (suc a) l (λ i lt. ap f (moved i) ∙ h (suc i) (omega arith)) in
    λ j. first j ∷ rest j

module _ (n m f : ℕ) where
  -- what a verdict of 8 tells
  record Told (count : ℕ) : Type 0 where
    range : in_range n m f ≡ true
    unsafe : is_unsafe n m f ≡ true
    counted : count ≡ length (unsafe_run n m)

  told-unsafe : (x : ℤ) (count : ℕ) → in_range n m f ≡ true → judged n m f ≡ Unsafe x count → Told count
  unfolding judged
  told-unsafe x count r e =
      ⊎_elim
      (λ (u : is_unsafe n m f ≡ true). let g = rw u at e in record { range = r; unsafe = u; counted = cc })
      (λ (u : is_unsafe n m f ≡ false). ⊎_elim
      (λ (s : is_stalling n m f ≡ true). let g = rw (u, s) at e in let z : ◌≡◌ {A = ℕ} 0 1 = cc in absurd (omega arith))
      (λ (s : is_stalling n m f ≡ false). let g = rw (u, s) at e in let z : ◌≡◌ {A = ℕ} 0 1 = cc in absurd (omega arith))
      (decided (is_stalling n m f)))
      (decided (is_unsafe n m f))

  told : (x : ℤ) (count : ℕ) → verdict n m f ≡ Unsafe x count → Told count
  unfolding verdict
  told x count e =
      ⊎_elim
      (λ (r : in_range n m f ≡ true). told-unsafe x count r (rw r at e))
      (λ (r : in_range n m f ≡ false). let g = rw r at e in let z : ◌≡◌ {A = ℕ} 0 1 = cc in absurd (omega arith))
      (decided (in_range n m f))

  event-given : (i : ℕ) → in_range n m f ≡ true → is_unsafe n m f ≡ true → i < length (unsafe_run n m)
      → run_event n m f (suc i) ≡ Ok (get_or (unsafe_run n m) i (Try (client_no 1)))
  unfolding run_event listed_event
  event-given i r u lt = rw (r, u, le-leb 1 (suc i) (omega arith), le-leb (suc i) (length (unsafe_run n m)) (omega arith)) refl

  pub run-joined : (x : ℤ) (count : ℕ) → verdict n m f ≡ Unsafe x count → map (run_event n m f) (span 0 count) ≡ map Ok (unsafe_run n m)
  run-joined x count e =
      let t = told x count e in
      let from-0 : (i : ℕ) → suc (0 + i) ≡ suc i = λ i. omega arith in
      rw t.counted (by_number (Try (client_no 1)) (run_event n m f) 0 (unsafe_run n m)
      (λ i lt. ap (run_event n m f) (from-0 i) ∙ event-given i t.range t.unsafe lt))
