-- `words::server_head` meets its contract: each of the first three words fits its field.
use Rattle.std.proofs.Common.{arith}
use Rattle.words.proofs.RecordsLaws.{headed-small, server-headed}
use Rattle.words.proofs.server_head.Goals as goal

pub overflow_cast-result : goal.overflow_cast-result
overflow_cast-result c = omega (arith, headed-small c.args.words.now c.requires)

pub overflow_cast-result-2 : goal.overflow_cast-result-2
overflow_cast-result-2 c = omega (arith, headed-small c.args.words.now c.requires)

pub overflow_cast-words : goal.overflow_cast-words
overflow_cast-words c = omega (arith, headed-small c.args.words.now c.requires)

pub returns : goal.returns
returns c = search server-headed
