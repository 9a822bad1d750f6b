-- The answers in document 01's numbers: each definition of an answer, said in numbers, is the table's row.
use Rattle.system.specs.declared.Event.{Event}
use Rattle.ids.specs.declared.Refusal.{Refusal}
use Rattle.std.specs.Prelude.{Ok, Err, Result, Some, None, Option}
use Prim.Native.Nat.{ℕ, ◌+◌, ◌*◌, ◌/◌}
use mathlib.Core.Path.{◌≡◌, refl, ap, ◌∙◌}
use mathlib.Core.Bool.{not}
use lib.IntN.{ℤ}
use lib.ListN.{length}
use Rattle.ids.specs.Limits.{within, max_servers}
use Rattle.ids.specs.declared.Refusal.TheVariants.{ParameterOutOfRange, NoSuchParty}
use Rattle.ids.proofs.Choice.{of_choice}
use Rattle.system.specs.Setting.{unsafe_run}
use Rattle.system.specs.declared.Event.TheVariants.{Try}
use Rattle.system.specs.Numbered.{at, client_no}
use Rattle.quorum.specs.Check.{in_range, margin, is_unsafe, is_stalling, judged, verdict, verdict_says, check_says, Demand3}
use Rattle.quorum.specs.Run.{listed_event, run_event, asked_says, event_says}
use Rattle.quorum.specs.Threshold.{threshold_of, threshold_says, default_says}
use Rattle.quorum.specs.declared.Verdict.{Verdict}
use Rattle.quorum.specs.declared.Verdict.TheVariants.{Accepted, Unsafe, Stalls, OutOfRange}

module _ (n m f : ℕ) where
  check-row : verdict_says (verdict n m f) ≡ check_says n m f
  unfolding verdict judged check_says
  check-row =
      let x : ℤ = margin n m f in
      of_choice verdict_says (in_range n m f) _ OutOfRange
      (of_choice verdict_says (is_unsafe n m f) (Unsafe x (length (unsafe_run n m))) _ refl
      (of_choice verdict_says (is_stalling n m f) (Stalls x) (Accepted x) refl refl)) refl

  pub check-said : (r : Verdict) → (r ≡ verdict n m f) × Demand3 n m f r → ((r ≡ verdict n m f) × Demand3 n m f r) × (verdict_says r ≡ check_says n m f)
  check-said r e = (e, ap verdict_says e.0 ∙ check-row)

  module _ (i : ℕ) where
    event-row : asked_says (run_event n m f i) ≡ event_says n m f i
    unfolding run_event listed_event event_says
    event-row =
        of_choice asked_says (in_range n m f) _ (Err ParameterOutOfRange)
        (of_choice asked_says (not (is_unsafe n m f)) (Err NoSuchParty) _ refl
        (of_choice asked_says (within i (length (unsafe_run n m))) (Ok (at (Try (client_no 1)) (unsafe_run n m) i)) (Err NoSuchParty) refl refl)) refl

    pub event-said : (r : Result Event Refusal) → r ≡ run_event n m f i → (r ≡ run_event n m f i) × (asked_says r ≡ event_says n m f i)
    event-said r e = (e, ap asked_says e ∙ event-row)

module _ (n : ℕ) where
  threshold_row : threshold_says (threshold_of n) ≡ default_says n
  unfolding threshold_of default_says
  threshold_row = of_choice threshold_says (within n max_servers) (Some ((2 * n + 2) / 3)) None refl refl

  pub threshold_said : (r : Option ℕ) → r ≡ threshold_of n → (r ≡ threshold_of n) × (threshold_says r ≡ default_says n)
  threshold_said r e = (e, ap threshold_says e ∙ threshold_row)
