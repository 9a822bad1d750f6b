-- The part that is filled with zeros comes back in its place.
use Rattle.std.proofs.Common.{◌≡◌, ◌+◌, ◌-◌, replicate, arith, rules}
use Rattle.rows.proofs.CopyLaws.{part-whole}
use Rattle.sim_transit.specs.Slots.{slot_size}
use Rattle.sim_transit.proofs.clear.Goals as goal

pub returns : goal.returns
returns c =
    let e : c.fill.new.self ≡ replicate slot_size 0 = search rules in
    part-whole c.args.t.now _ (replicate slot_size 0) c.args.at (c.args.at + slot_size - c.args.at) (omega arith) (omega arith) e
