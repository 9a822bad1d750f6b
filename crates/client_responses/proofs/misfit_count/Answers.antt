-- One place more, and all of them.
use Rattle.std.proofs.Common.{rules}
use Rattle.rows.proofs.WordLaws.{client-small}
use Rattle.client_responses.proofs.CountLaws.{counting_more, counting_all}
use Rattle.client_responses.proofs.misfit_count.Goals as goal

pub misfit-found-requires : goal.misfit-found-requires
misfit-found-requires c = search (rules, client-small)

pub loop-i-preserved : goal.loop-i-preserved
loop-i-preserved c = search counting_more

pub returns : goal.returns
returns c = search counting_all
