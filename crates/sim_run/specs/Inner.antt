-- Definitions that only the contracts of private functions cite: no promise rests on them.
use Rattle.sim_changes.specs.declared.Effect.{Effect}
use Rattle.ids.specs.declared.Refusal.{Refusal}
use Rattle.std.specs.Prelude.{◌+◌, max, Ok, Err, Result}
use Rattle.sim_run.specs.declared.Counts.{Counts}

-- the counts after a reply
unfoldable pub counted : Counts → Result Effect Refusal → Counts
counted c (Err x) = c
counted c (Ok s) = record { accepted = c.accepted + 1; holding = max c.holding s.holders }
