-- The library's sum of the counts before place p is ours, which is bounded.
use Rattle.std.proofs.Common.{◌≡◌, ◌<◌, take, arith, rules, ◌∙◌, ◌^◌}
use Rattle.std.specs.List.{sum as sum_of}
use Rattle.sim_index.proofs.LoopLaws.{sum-is}
use Rattle.sim_index.proofs.start.Goals as goal

pub sum-total-requires-clause-fits : goal.sum-total-requires-clause-fits
sum-total-requires-clause-fits c =
    let h : sum_of (take c.args.p c.args.x.now) < 2 ^ 32 = omega (arith, sum-is (take c.args.p c.args.x.now), c.requires) in
    search rules

pub returns : goal.returns
returns c =
    let h : c.sum-total.result ≡ sum_of (take c.args.p c.args.x.now) = search rules in
    h ∙ sum-is (take c.args.p c.args.x.now)
