-- The answers to a script's calls, said in document 01's numbers: each is the table's row.
use Rattle.script.specs.declared.Progress.{Progress}
use Rattle.ids.specs.declared.Refusal.{Refusal}
use Rattle.std.specs.Prelude.{Ok, Err, Result}
use Prim.Native.Nat.{ℕ}
use mathlib.Core.Path.{◌≡◌, refl, ap, ◌∙◌}
use mathlib.Core.List.{List}
use lib.Dec.{eqb, ltb}
use lib.ListN.{length}
use Rattle.ids.specs.declared.Refusal.TheVariants.{RoomShort, InvalidRecord, ParameterOutOfRange}
use Rattle.ids.proofs.Choice.{of_choice}
use Rattle.script_output.specs.Reader.{max_printed}
use Rattle.script.specs.State.{state_size, valid}
use Rattle.script.specs.Calls.{new_answer, feed_answer, finish_answer, max_ending, progress_says, new_says, feed_says, finish_says}

new_row : (w : List ℕ) → progress_says (new_answer w) ≡ new_says w
unfolding new_answer new_says
new_row w = of_choice progress_says (eqb (length w) state_size) (Ok (record { used = 0; wrote = 0 })) (Err ParameterOutOfRange) refl refl

feed_row : (w input : List ℕ) (room : ℕ) → progress_says (feed_answer w input room) ≡ feed_says w input room
unfolding feed_answer feed_says
feed_row w input room =
    of_choice progress_says (valid w) _ (Err InvalidRecord)
    (of_choice progress_says (ltb room max_printed) (Err RoomShort) _ refl refl) refl

finish_row : (w : List ℕ) (room : ℕ) → progress_says (finish_answer w room) ≡ finish_says w room
unfolding finish_answer finish_says
finish_row w room =
    of_choice progress_says (valid w) _ (Err InvalidRecord)
    (of_choice progress_says (ltb room max_ending) (Err RoomShort) _ refl refl) refl

-- beside whatever else a call leaves
module _ {L : Type 0} (r : Result Progress Refusal) where
  pub new_said : (w : List ℕ) → (r ≡ new_answer w) × L → ((r ≡ new_answer w) × L) × (progress_says r ≡ new_says w)
  new_said w h = (h, ap progress_says h.0 ∙ new_row w)

  pub feed_said : (w input : List ℕ) (room : ℕ) → (r ≡ feed_answer w input room) × L
      → ((r ≡ feed_answer w input room) × L) × (progress_says r ≡ feed_says w input room)
  feed_said w input room h = (h, ap progress_says h.0 ∙ feed_row w input room)

  pub finish_said : (w : List ℕ) (room : ℕ) → (r ≡ finish_answer w room) × L → ((r ≡ finish_answer w room) × L) × (progress_says r ≡ finish_says w room)
  finish_said w room h = (h, ap progress_says h.0 ∙ finish_row w room)
