-- `capi_packet::answer` meets its contract: by the room there is.
use Rattle.capi_packet.proofs.CallLaws.{answer-short, answer-put}
use Rattle.capi_packet.proofs.answer.Goals as goal

pub returns-then-words-lt-READ_WORDS : goal.returns-then-words-lt-READ_WORDS
returns-then-words-lt-READ_WORDS c = answer-short _ _ _ _ c.if-words-lt-READ_WORDS.true c.code_of.ensures

pub returns : goal.returns
returns c = let a = c.args in
    answer-put a.words.now a.f a.used _ c.if-words-lt-READ_WORDS.false c.put_words.ensures
