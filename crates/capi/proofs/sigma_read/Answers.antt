-- Each arm is given which numbers `wire::read_fields` answered.
use Rattle.std.proofs.Common.{[], arith}
use Rattle.capi.proofs.CallLaws.{used-small, read-room, read_done, read-refused}
use Rattle.capi.proofs.sigma_read.Goals as goal

pub returns-then-words-lt-READ_WORDS : goal.returns-then-words-lt-READ_WORDS
returns-then-words-lt-READ_WORDS c = read-room _ _ _ c.read_fields.ensures.value _ _ c.in-Ok.is _ c.if-words-lt-READ_WORDS.true c.code_of.ensures

pub overflow_cast-used : goal.overflow_cast-used
overflow_cast-used c = let n = used-small _ [] _ c.read_fields.ensures.value _ _ c.in-Ok.is in omega arith

pub returns-else-words-lt-READ_WORDS : goal.returns-else-words-lt-READ_WORDS
returns-else-words-lt-READ_WORDS c = read_done _ _ _ c.read_fields.ensures.value _ _ c.in-Ok.is _ c.if-words-lt-READ_WORDS.false c.put_words.ensures

pub returns-in-Err : goal.returns-in-Err
returns-in-Err c = read-refused _ _ _ c.read_fields.ensures.value _ _ c.in-Err.is c.code_of-in-Err.ensures
