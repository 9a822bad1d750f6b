-- `sim_blocks::fits_server` meets its contract: the record, its two numbers, its owner, then its queue.
use native.Mathlib.Omega.{arith}
use mathlib.Core.Path.{◌≡◌}
use lib.ListN.{length}
use Rattle.sim_blocks.specs.Blocks.{server_record_size, queue_words}
use Rattle.words.proofs.RecordsLaws.{server-held}
use Rattle.sim_blocks.proofs.TestLaws.{server-lent, server_broken, server_count_differs, server_number_differs, owner_unknown, queue_decides, length-fits}
use Rattle.sim_blocks.proofs.fits_server.Goals as goal

pub server_head-h-requires : goal.server_head-h-requires
server_head-h-requires c = (server-held _ _ c.requires).headed

pub slice_bounds-valid_row-end : goal.slice_bounds-valid_row-end
slice_bounds-valid_row-end c =
    let long : length c.args.words.now ≡ server_record_size = (server-held queue_words c.args.words.now c.requires).size in
    omega (arith, long)

pub returns-then-not-valid_row : goal.returns-then-not-valid_row
returns-then-not-valid_row c =
    let its = server-lent c.args.words.now _ c.requires c.server_head-h.ensures in
    server_broken _ _ _ _ _ its _ c.valid_row.ensures c.if-not-valid_row.true

pub bounds-words-0 : goal.bounds-words-0
bounds-words-0 c =
    let long : length c.args.words.now ≡ server_record_size = (server-held queue_words c.args.words.now c.requires).size in
    omega (arith, long)

pub returns-then-words-n : goal.returns-then-words-n
returns-then-words-n c =
    let its = server-lent c.args.words.now _ c.requires c.server_head-h.ensures in
    server_count_differs _ _ _ _ _ its _ c.valid_row.ensures c.if-not-valid_row.false c.if-words-n.true

pub bounds-words-1 : goal.bounds-words-1
bounds-words-1 c =
    let long : length c.args.words.now ≡ server_record_size = (server-held queue_words c.args.words.now c.requires).size in
    omega (arith, long)

pub returns-then-words-j : goal.returns-then-words-j
returns-then-words-j c =
    let its = server-lent c.args.words.now _ c.requires c.server_head-h.ensures in
    server_number_differs _ _ _ _ _ its _ c.valid_row.ensures c.if-not-valid_row.false c.if-words-n.false c.if-words-j.true

pub bounds-words-2 : goal.bounds-words-2
bounds-words-2 c =
    let long : length c.args.words.now ≡ server_record_size = (server-held queue_words c.args.words.now c.requires).size in
    omega (arith, long)

pub returns-then-clients-words : goal.returns-then-clients-words
returns-then-clients-words c =
    let its = server-lent c.args.words.now _ c.requires c.server_head-h.ensures in
    owner_unknown _ _ _ _ _ its _ c.valid_row.ensures c.if-not-valid_row.false c.if-words-n.false c.if-words-j.false c.if-clients-words.true

pub bounds-words-4 : goal.bounds-words-4
bounds-words-4 c =
    let long : length c.args.words.now ≡ server_record_size = (server-held queue_words c.args.words.now c.requires).size in
    omega (arith, long)

pub overflow_cast-words : goal.overflow_cast-words
overflow_cast-words c =
    let long : length c.args.words.now ≡ server_record_size = (server-held queue_words c.args.words.now c.requires).size in
    let its = server-lent c.args.words.now _ c.requires c.server_head-h.ensures in
    let queue-inside = let a = c.args in length-fits a.n a.clients a.j _ _ its _ c.valid_row.ensures c.if-not-valid_row.false c.requires in
    omega (arith, long, queue-inside)

pub requests_named-requires : goal.requests_named-requires
requests_named-requires c =
    let its = server-lent c.args.words.now _ c.requires c.server_head-h.ensures in
    let queue-inside = let a = c.args in length-fits a.n a.clients a.j _ _ its _ c.valid_row.ensures c.if-not-valid_row.false c.requires in
    queue-inside

pub returns : goal.returns
returns c =
    let its = server-lent c.args.words.now _ c.requires c.server_head-h.ensures in
    queue_decides _ _ _ _ _ its _ c.valid_row.ensures c.if-not-valid_row.false c.if-words-n.false c.if-words-j.false
    c.if-clients-words.false _ c.requests_named.ensures
