-- An event has the same two words in both directions: those that `sigma_run_event` gives of an event ask `sigma_simulation_event` for that event.
use mathlib.Core.Path.{◌≡◌, refl}
use mathlib.Core.Bool.{true}
use Rattle.system.specs.declared.Event.{Event as Happening}
use Rattle.system.specs.declared.Event.TheVariants.{Try, Exit, Fall, Down, Up, Take, Drop, Miss, Check}
use Rattle.script_lines.specs.Lines.{event_of, sixteen_bits, line_of}
use Rattle.script_lines.specs.declared.Line.TheVariants.{Event}
use Rattle.capi_quorum.specs.Calls.{event_kind, event_number}
use Rattle.capi_simulation.specs.Calls.{command_of, asked}

pub asked-again : (e : Happening) → sixteen_bits e ≡ true → asked (event_kind e) (event_number e) ≡ Event e
unfolding command_of event_of line_of
asked-again (Try k) h = rw h refl
asked-again (Exit k) h = rw h refl
asked-again (Fall k) h = rw h refl
asked-again (Down j) h = rw h refl
asked-again (Up j) h = rw h refl
asked-again (Take i) h = rw h refl
asked-again (Drop i) h = rw h refl
asked-again (Miss j) h = rw h refl
asked-again (Check j) h = rw h refl
