-- `quorum::judge` meets its contract: each return is one case of the definition.
use Rattle.quorum.proofs.ReturnLaws.{judge-unsafe, judge-stalls, judge-accepts}
use Rattle.quorum.proofs.judge.Goals as goal

pub returns-then-m-n : goal.returns-then-m-n
returns-then-m-n c = search judge-unsafe

pub returns-then-n-m : goal.returns-then-n-m
returns-then-n-m c = search judge-stalls

pub returns : goal.returns
returns c = search judge-accepts
