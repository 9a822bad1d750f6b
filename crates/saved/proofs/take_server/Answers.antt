-- `saved::take_server` meets its contract: the first words are lent, and come back as the record of today.
use Rattle.saved.proofs.FormLaws.{servers, room, taken}
use Rattle.saved.proofs.take_server.Goals as goal

pub widen-requires : goal.widen-requires
widen-requires c = search (room servers)

pub returns : goal.returns
returns c = search (taken servers)
