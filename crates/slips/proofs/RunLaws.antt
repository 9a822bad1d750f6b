-- A script that runs has a valid simulation, and its state has all its words.
use mathlib.Core.Path.{◌≡◌}
use Prim.Native.Nat.{ℕ}
use mathlib.Core.Bool.{true}
use mathlib.Core.List.{List}
use lib.ListN.{get_or, take, drop}
use Rattle.ids.proofs.Choice.{both}
use Rattle.sim_layout.specs.Layout.{valid, simulation_size}
use Rattle.script.specs.State as script
use Rattle.script.specs.State.{stage_at, stage_running, head_in, simulation_in, valid_run, state_head}
use Rattle.script.proofs.LineLaws.{known}

pub runs : (w : List ℕ) → script.valid w ≡ true → get_or w stage_at 0 ≡ stage_running → valid (take simulation_size (drop state_head w)) ≡ true
unfolding head_in simulation_in valid_run
runs w v e = (both (valid (simulation_in w)) _ ((known w v).runs e)).0
