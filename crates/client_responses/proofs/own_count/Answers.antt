-- One place more, and all of them.
use Rattle.client_responses.proofs.CountLaws.{counting_more, counting_all}
use Rattle.client_responses.proofs.own_count.Goals as goal

pub loop-i-preserved : goal.loop-i-preserved
loop-i-preserved c = search counting_more

pub returns : goal.returns
returns c = search counting_all
