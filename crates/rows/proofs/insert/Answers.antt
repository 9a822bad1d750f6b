-- The place found is where insertion by order puts it.
use Rattle.std.proofs.Common.{rules, refl}
use Rattle.rows.proofs.QueueLaws.{slot-within, inserted_at_slot}
use Rattle.rows.proofs.insert.Goals as goal

pub insert_at-requires : goal.insert_at-requires
insert_at-requires c = search (rules, slot-within)

pub returns : goal.returns
returns c = (refl, search inserted_at_slot)
