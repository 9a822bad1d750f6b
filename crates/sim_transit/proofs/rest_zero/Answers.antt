-- `all` tests each word behind the used slots.
use Rattle.std.proofs.Common.{◌∙◌, ◌*◌, ap, length, eqb, arith, rules, tests}
use Rattle.std.proofs.lemmas.Iterator.{YieldsList-from_slice}
use Rattle.std.proofs.lemmas.Iterator.Search.{all_from_yields_List}
use Rattle.std.proofs.lemmas.Slice.{between_to_end}
use Rattle.std.specs.List.{between}
use Rattle.ids.specs.Lists.{every}
use Rattle.ids.proofs.ListLaws.{every-all}
use Rattle.sim_transit.specs.Slots.{slot_size}
use Rattle.sim_transit.proofs.rest_zero.Goals as goal

pub returns : goal.returns
returns c =
    let t = c.args.t.now in
    let from = slot_size * c.args.len in
    all_from_yields_List (eqb 0) _ _ c.all.result c.all.ensures.ran (YieldsList-from_slice _ c.iter.ensures.rest) (λ x b q k. search (rules, tests)) ∙
    (every-all (eqb 0) (between from (length t) t) ∙ ap (every (eqb 0)) (between_to_end t from (length t) (omega arith)))
