-- `words::put_client_head` meets its contract: six words, the section's as its function says.
use Rattle.words.proofs.RecordsLaws.{client_head-put}
use Rattle.words.proofs.put_client_head.Goals as goal

pub returns : goal.returns
returns c = search client_head-put
