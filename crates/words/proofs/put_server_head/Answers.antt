-- `words::put_server_head` meets its contract: five words, the owner's as its two functions say.
use Rattle.words.proofs.RecordsLaws.{server_head-put}
use Rattle.words.proofs.put_server_head.Goals as goal

pub returns : goal.returns
returns c = search server_head-put
