-- `saved::sound_server` meets its contract: the words hold a record, and it is valid.
use Rattle.std.proofs.Common.{rules}
use Rattle.saved.proofs.FormLaws.{no_server_lem, server-headed, server_five, server-judged}
use Rattle.saved.proofs.sound_server.Goals as goal

pub returns-then-not-holds_server_of : goal.returns-then-not-holds_server_of
returns-then-not-holds_server_of c = search no_server_lem

pub server_head-h-requires : goal.server_head-h-requires
server_head-h-requires c = search server-headed

pub slice_bounds-valid_row_up_to-count : goal.slice_bounds-valid_row_up_to-count
slice_bounds-valid_row_up_to-count c = search (rules, server_five)

pub slice_bounds-valid_row_up_to-start : goal.slice_bounds-valid_row_up_to-start
slice_bounds-valid_row_up_to-start c = search (rules, server_five)

pub returns : goal.returns
returns c = search server-judged
