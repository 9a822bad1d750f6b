-- The quotient is that of the definition, and `bears` says what it bears.
use Rattle.std.proofs.Common.{arith, ◌≡◌, ◌/◌}
use Rattle.quorum.specs.Threshold.{most_faults}
use Rattle.quorum.proofs.ProposalLaws.{bears}
use Rattle.quorum.proofs.most_faults.Goals as goal

pub returns : goal.returns
returns c =
    let e : c.saturating_sub.result / 3 ≡ most_faults c.args.n = omega arith in
    (e, rw e (bears c.args.n))
