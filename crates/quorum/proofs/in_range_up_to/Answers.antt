-- `quorum::in_range_up_to` meets its contract: each return is one case of the definition.
use Rattle.quorum.proofs.ReturnLaws.{no_servers_lem, no_threshold, faults_decide}
use Rattle.quorum.proofs.in_range_up_to.Goals as goal

pub returns-then-not-within_limit : goal.returns-then-not-within_limit
returns-then-not-within_limit c = search no_servers_lem

pub returns-then-not-within_limit-2 : goal.returns-then-not-within_limit-2
returns-then-not-within_limit-2 c = search no_threshold

pub returns : goal.returns
returns c = let a = c.args in
    faults_decide a.limit a.n a.m a.f _ c.within_limit.ensures _ c.if-not-within_limit.false
    c.within_limit-2.ensures c.if-not-within_limit-2.false
