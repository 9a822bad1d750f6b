-- The requests are tested by their places.
use Rattle.std.proofs.Common.{◌≡◌, ℕ, ◌+◌, ◌*◌, ◌∙◌, get_or, refl, arith, rules, tests}
use lib.Dec.{leb}
use Rattle.std.proofs.lemmas.Iterator.{YieldsList-from_range}
use Rattle.std.proofs.lemmas.Iterator.Search.{all_from_yields_List}
use Rattle.sim_blocks.proofs.BlockParts.{named-all}
use Rattle.sim_blocks.proofs.requests_named.Goals as goal

pub returns : goal.returns
returns c =
    let ws = c.args.words.now in
    let z : c.args.head + 2 * 0 ≡ c.args.head = omega arith in
    all_from_yields_List (λ (i : ℕ). leb (get_or ws (c.args.head + 2 * i) 0) c.args.clients) _ _ c.all.result c.all.ensures.ran
    (YieldsList-from_range 0 c.args.count c.args.count refl (omega arith)) (λ x b q k. search (rules, tests)) ∙
    rw z at (named-all ws c.args.clients c.args.head 0 c.args.count (omega arith))
