-- `sim_transit::post_message` meets its contract: the slot behind the others is stored, with the message's own numbers.
use mathlib.Core.Path.{ap, ◌∙◌}
use Prim.Native.Nat.{◌+◌, ◌*◌}
use mathlib.Core.List.{◌∷◌}
use lib.Seq.{sets}
use Rattle.wire.specs.Format.{words}
use Rattle.wire.specs.declared.Fields.{Fields}
use Rattle.sim_transit.specs.Slots.{slot_size}
use Rattle.sim_transit.proofs.PostLaws.{one_post}
use Rattle.sim_transit.proofs.post_message.Goals as goal

pub returns : goal.returns
returns c = let t = c.args.t.now in
    one_post c.args.len c.args.sent c.args.m t _
    (c.put_slot.ensures ∙
    ap (λ (f : Fields). sets t (slot_size * c.args.len) ((c.args.sent + 1) ∷ (0 ∷ words f))) c.fields_of-f.ensures)
