-- `saved::sound_client` meets its contract: the words hold a record, and it is valid.
use Rattle.std.proofs.Common.{rules}
use Rattle.saved.proofs.FormLaws.{no_client_lem, client-headed, client_six, client-judged}
use Rattle.saved.proofs.sound_client.Goals as goal

pub returns-then-not-holds_client_of : goal.returns-then-not-holds_client_of
returns-then-not-holds_client_of c = search no_client_lem

pub client_head-h-requires : goal.client_head-h-requires
client_head-h-requires c = search client-headed

pub slice_bounds-valid_row_up_to-count : goal.slice_bounds-valid_row_up_to-count
slice_bounds-valid_row_up_to-count c = search (rules, client_six)

pub slice_bounds-valid_row_up_to-start : goal.slice_bounds-valid_row_up_to-start
slice_bounds-valid_row_up_to-start c = search (rules, client_six)

pub returns : goal.returns
returns c = search client-judged
