-- Definitions that only the contracts of private functions cite: no promise rests on them.
use Rattle.std.specs.Prelude.{ℕ, List, ◌∷◌}
use Rattle.system.specs.declared.Event.{Event}
use Rattle.script_lines.specs.Printed.{event_line}
use Rattle.listing.specs.Listing.{each}
use Rattle.listing.specs.Text.{comma}

-- the events with a comma before each
abbrev pub marked : List Event → List ℕ
marked es = each (λ e. comma ∷ event_line e) es
