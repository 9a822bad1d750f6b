-- The state has taken in these bytes, as the definition takes them in.
use Rattle.std.specs.Prelude.{ℕ, ◌≡◌, List}
use Rattle.script_output.specs.Reader.{fed}
use Rattle.script.specs.State.{view}

pub record Taken (w bytes w' : List ℕ) : Type 0 where
  pub reader : view w' ≡ (fed (view w) bytes).now
