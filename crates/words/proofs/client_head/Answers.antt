-- `words::client_head` meets its contract: each of the first three words fits its field.
use Rattle.std.proofs.Common.{arith}
use Rattle.words.proofs.RecordsLaws.{headed-small, client-headed}
use Rattle.words.proofs.client_head.Goals as goal

pub overflow_cast-result : goal.overflow_cast-result
overflow_cast-result c = omega (arith, headed-small c.args.words.now c.requires)

pub overflow_cast-result-2 : goal.overflow_cast-result-2
overflow_cast-result-2 c = omega (arith, headed-small c.args.words.now c.requires)

pub overflow_cast-result-3 : goal.overflow_cast-result-3
overflow_cast-result-3 c = omega (arith, headed-small c.args.words.now c.requires)

pub returns : goal.returns
returns c = search client-headed
