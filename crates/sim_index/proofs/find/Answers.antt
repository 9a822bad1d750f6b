-- The library's first place is ours, and where there is none, `unwrap_or` counts all words.
use Rattle.std.proofs.Common.{◌≡◌, ◌+◌, ◌∙◌, ap, length, length-drop, ◌-◌, ℕ, List, take, drop, eqb, arith, rules, tests}
use Rattle.std.proofs.lemmas.Iterator.{YieldsList-from_slice}
use Rattle.std.proofs.lemmas.Iterator.Search.{position_from_yields_List}
use lib.Seq.{length-take-le}
use Rattle.sim_index.proofs.LoopLaws.{first-or_all}
use Rattle.sim_index.proofs.find.Goals as goal

pub returns : goal.returns
returns c =
    let l : List ℕ = take (c.args.to - c.args.from) (drop c.args.from c.args.x.now) in
    let e =
    position_from_yields_List (λ (y : ℕ). eqb y c.args.v) _ _ c.position-found.result c.position-found.ensures.ran
    (YieldsList-from_slice _ c.iter.ensures.rest) (λ x b q k. search (rules, tests)) in
    let long : length l ≡ c.args.to - c.args.from =
    length-take-le _ (drop c.args.from c.args.x.now) (omega (arith, length-drop {A = ℕ})) in
    ap (λ (k : ℕ). c.args.from + k) (c.unwrap_or.ensures ∙ first-or_all c.args.v _ l _ e long)
