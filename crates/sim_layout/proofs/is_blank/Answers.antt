-- `all` tests each word of the part.
use Rattle.std.proofs.Common.{◌∙◌, eqb, rules, tests}
use Rattle.std.proofs.lemmas.Iterator.{YieldsList-from_slice}
use Rattle.std.proofs.lemmas.Iterator.Search.{all_from_yields_List}
use Rattle.std.specs.List.{between}
use Rattle.ids.proofs.ListLaws.{every-all}
use Rattle.sim_layout.proofs.is_blank.Goals as goal

pub returns : goal.returns
returns c =
    all_from_yields_List (eqb 0) _ _ c.all.result c.all.ensures.ran (YieldsList-from_slice _ c.iter.ensures.rest) (λ x b q k. search (rules, tests)) ∙
    every-all (eqb 0) (between c.args.from c.args.to c.args.w.now)
