-- The living holders are counted by their places.
use Rattle.std.proofs.Common.{ℕ, Bool, ◌+◌, ◌∙◌, refl, arith, rules, tests}
use Rattle.std.specs.List.{range_with_len}
use Rattle.std.proofs.lemmas.Iterator.{YieldsList-from_range}
use Rattle.std.proofs.lemmas.Iterator.Consumers.{YieldsList-at, YieldsList-from_filter, count_from_yields_List}
use Rattle.std.proofs.lemmas.List.Sums.{length-filter}
use Rattle.sim_blocks.specs.Blocks.{client_place, client_block}
use Rattle.system.specs.Places.{is_inside}
use Rattle.system.specs.Numbered.{client_no}
use Rattle.sim_layout.specs.Layout.{client_words}
use Rattle.sim_layout.specs.Parts.{client_block_of}
use Rattle.sim_layout.proofs.HolderLaws.{inside-counted}
use Rattle.sim_layout.proofs.count_inside.Goals as goal

pub returns : goal.returns
returns c =
    let w = c.args.w.now in
    let n = c.args.clients in
    let inside : ℕ → Bool = λ i. is_inside (client_place (client_block_of w (client_no (i + 1)))) in
    count_from_yields_List c.filter.result _ c.count.ensures.ran
    (YieldsList-from_filter _ inside (YieldsList-at c.filter.ensures.source (YieldsList-from_range 0 n n refl (omega arith)))
    c.filter.ensures.closure (λ x b q k. search (rules, tests))) ∙
    (length-filter inside (range_with_len 0 n) ∙ inside-counted client_block client_place (client_words w) 0 n)
