-- `all` tests each word.
use Rattle.std.proofs.Common.{ℕ, ◌∙◌, rules, tests}
use lib.Dec.{leb}
use Rattle.std.proofs.lemmas.Iterator.{YieldsList-from_slice}
use Rattle.std.proofs.lemmas.Iterator.Search.{all_from_yields_List}
use Rattle.ids.proofs.ListLaws.{every-all}
use Rattle.sim_blocks.proofs.at_most.Goals as goal

pub returns : goal.returns
returns c =
    let f = λ (x : ℕ). leb x c.args.most in
    all_from_yields_List f _ _ c.all.result c.all.ensures.ran (YieldsList-from_slice c.args.words.now cc) (λ x b q k. search (rules, tests)) ∙
    every-all f c.args.words.now
