-- The script has ended: its end stands at the start of the buffer, and whatever is fed to the state now prints nothing.
use Rattle.std.specs.Prelude.{ℕ, ◌≤◌, ◌≡◌, true, List, [], length}
use Rattle.std.proofs.lemmas.List.Edits.{sets}
use Rattle.script_output.specs.Reader.{closed, finished}
use Rattle.script.specs.State.{view, valid}

pub record Ended (w out w' out' : List ℕ) : Type 0 where
  pub again : valid w' ≡ true
  pub reader : view w' ≡ record { stage = closed; line = [] }
  pub bytes : out' ≡ sets out 0 (finished (view w))
  pub within : length (finished (view w)) ≤ length out
