-- What `new` does: it opens a simulation, or is refused 7 and the words stay.
use Rattle.ids.specs.declared.Refusal.{Refusal}
use Rattle.std.specs.Prelude.{◌≡◌, ℕ, Bool, true, false, ◌&&◌, List, [], ◌∷◌, eqb, length, if◌then◌else◌, Ok, Err, Result}
use Rattle.ids.specs.Limits.{within}
use Rattle.ids.specs.Refusals.{Says, accepts, refuses}
use Rattle.ids.specs.declared.Refusal.TheVariants.{ParameterOutOfRange}
use Rattle.quorum.specs.Check.{in_range_up_to}
use Rattle.system.specs.Limits.{system_clients, system_servers}
use Rattle.system.specs.declared.Setting.{Setting}
use Rattle.sim_layout.specs.Layout.{simulation_size}
use Rattle.sim_changes.specs.Opening.{Starts}

-- a setting in range; an unsafe or stalling one is
abbrev pub in_range : Setting → Bool
in_range s = in_range_up_to system_servers s.n s.m s.f && within s.clients system_clients

-- a new simulation: all words are there, and the setting is in range
unfoldable pub opens : ℕ → Setting → Bool
opens long s = eqb long simulation_size && in_range s

unfoldable pub new_reply : Bool → Result ℕ Refusal
new_reply b = if b then Ok 0 else Err ParameterOutOfRange

-- the answer in document 01's numbers: nothing is sent
unfoldable pub open_says : Bool → Says ℕ
open_says b = if b then accepts (0 ∷ []) else refuses 7

pub record NewLeaves (s : Setting) (w w' : List ℕ) : Type 0 where
  pub starts : opens (length w) s ≡ true → Starts s w'
  pub kept : opens (length w) s ≡ false → w' ≡ w
