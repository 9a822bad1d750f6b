-- Definitions that only the contracts of private functions cite: no promise rests on them.
use Rattle.std.specs.Prelude.{Bool, if◌then◌else◌}
use Rattle.ids.specs.declared.Refusal.{Refusal}
use Rattle.ids.specs.declared.Refusal.TheVariants.{RoomShort, InvalidRecord}

-- 21, 6: the refusal of a call without room, on words that are valid or not
abbrev pub short_of : Bool → Refusal
short_of b = if b then RoomShort else InvalidRecord
