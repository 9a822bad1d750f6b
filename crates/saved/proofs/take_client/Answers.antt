-- `saved::take_client` meets its contract: the first words are lent, and come back as the record of today.
use Rattle.saved.proofs.Ordered.{now-put, today_now, earlier_head_lem, earlier_room, earlier_now}
use Rattle.saved.proofs.take_client.Goals as goal

pub returns-then-words-eq-CLIENT_WORDS : goal.returns-then-words-eq-CLIENT_WORDS
returns-then-words-eq-CLIENT_WORDS c = search (now-put, today_now)

pub put_unseen-requires : goal.put_unseen-requires
put_unseen-requires c = search (earlier_head_lem, earlier_room)

pub returns : goal.returns
returns c = search (now-put, earlier_now)
