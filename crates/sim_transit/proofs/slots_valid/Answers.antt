-- The slots are tested by their places.
use Rattle.std.proofs.Common.{ℕ, ◌*◌, ◌∙◌, take, drop, refl, arith, rules, tests}
use Rattle.std.proofs.lemmas.Iterator.{YieldsList-from_range}
use Rattle.std.proofs.lemmas.Iterator.Search.{all_from_yields_List}
use Rattle.sim_transit.specs.Slots.{valid_slot, slot_size}
use Rattle.sim_transit.proofs.ValidLaws.{rows-all}
use Rattle.sim_transit.proofs.slots_valid.Goals as goal

pub returns : goal.returns
returns c =
    let f = valid_slot c.args.n c.args.clients in
    let t = c.args.t.now in
    all_from_yields_List (λ (i : ℕ). f (take slot_size (drop (slot_size * i) t))) _ _ c.all.result c.all.ensures.ran
    (YieldsList-from_range 0 c.args.len c.args.len refl (omega arith)) (λ x b q k. search (rules, tests)) ∙
    rows-all f t 0 c.args.len
