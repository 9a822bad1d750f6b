-- The words are tested by their places, as the definition tests them.
use Rattle.std.proofs.Common.{ℕ, ◌∙◌, eqb, get_or, refl, arith, rules, tests}
use lib.ListN.{length}
use Rattle.std.proofs.lemmas.Iterator.{YieldsList-from_range}
use Rattle.std.proofs.lemmas.Iterator.Search.{all_from_yields_List}
use Rattle.sim_index.proofs.LoopLaws.{same-all}
use Rattle.sim_index.proofs.same.Goals as goal

pub returns : goal.returns
returns c =
    let x = c.args.x.now in
    let y = c.args.y.now in
    all_from_yields_List (λ (i : ℕ). eqb (get_or x i 0) (get_or y i 0)) _ _ c.all.result c.all.ensures.ran
    (YieldsList-from_range 0 (length x) (length x) refl (omega arith)) (λ i b q k. search (rules, tests)) ∙
    same-all x y c.requires 0 (length x) (omega arith)
