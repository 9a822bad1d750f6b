-- A new simulation.
use Rattle.std.specs.Prelude.{◌≡◌, true, ℕ, List}
use Rattle.client_responses.specs.Figure1.{enough}
use Rattle.system.specs.declared.Setting.{Setting}
use Rattle.system.specs.Runs.{start}
use Rattle.sim_layout.specs.Layout.{setting_of, view, valid}

-- w' is a fresh start of the setting
pub record Starts (s : Setting) (w' : List ℕ) : Type 0 where
  pub system : view w' ≡ start s.n (enough s.m) s.clients
  pub setting : setting_of w' ≡ s
  pub again : valid w' ≡ true
