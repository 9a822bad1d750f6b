-- When nothing more need be read. `spent` is what the code tests: the first line was refused, or the last event line that is read is answered.
-- `Over` is what it means: whatever came, no more would be printed, and the end would be the same. They are one (proofs/OverLaws).
use Rattle.std.specs.Prelude.{ℕ, ◌≡◌, Bool, true, false, List, [], leb}
use Rattle.script_output.specs.Output.{max_lines}
use Rattle.script_output.specs.Reader.{Stage, opening, running, closed, Reader, fed, finished}

abbrev pub spent : Stage → Bool
spent opening = false
spent (running s) = leb max_lines s.answered
spent closed = true

pub record Over (r : Reader) : Type 0 where
  pub silent : (s : List ℕ) → (fed r s).out ≡ []
  pub same : (s : List ℕ) → finished (fed r s).now ≡ finished r
