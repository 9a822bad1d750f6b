-- `sim_blocks::fits_client` meets its contract: the record, its three numbers, then its responses.
use native.Mathlib.Omega.{arith}
use mathlib.Core.Path.{◌≡◌}
use lib.ListN.{length}
use Rattle.sim_blocks.specs.Blocks.{client_record_size, response_words}
use Rattle.words.proofs.RecordsLaws.{client-held, client-row}
use Rattle.sim_blocks.proofs.TestLaws.{client-lent, client_broken, servers_differ, servers-few, threshold_differs, number_differs, named_decides}
use Rattle.sim_blocks.proofs.fits_client.Goals as goal

pub client_head-h-requires : goal.client_head-h-requires
client_head-h-requires c = (client-held _ _ c.requires).headed

pub slice_bounds-valid_row-end : goal.slice_bounds-valid_row-end
slice_bounds-valid_row-end c =
    let long : length c.args.words.now ≡ client_record_size = (client-held response_words c.args.words.now c.requires).size in
    omega (arith, long)

pub returns-then-not-valid_row : goal.returns-then-not-valid_row
returns-then-not-valid_row c =
    let its = client-lent c.args.words.now _ c.requires c.client_head-h.ensures in
    client_broken _ _ _ _ _ _ its _ c.valid_row.ensures c.if-not-valid_row.true

pub bounds-words-0 : goal.bounds-words-0
bounds-words-0 c =
    let long : length c.args.words.now ≡ client_record_size = (client-held response_words c.args.words.now c.requires).size in
    omega (arith, long)

pub returns-then-words-n : goal.returns-then-words-n
returns-then-words-n c =
    let its = client-lent c.args.words.now _ c.requires c.client_head-h.ensures in
    servers_differ _ _ _ _ _ _ its _ c.valid_row.ensures c.if-not-valid_row.false c.if-words-n.true

pub bounds-words-1 : goal.bounds-words-1
bounds-words-1 c =
    let long : length c.args.words.now ≡ client_record_size = (client-held response_words c.args.words.now c.requires).size in
    omega (arith, long)

pub returns-then-words-m : goal.returns-then-words-m
returns-then-words-m c =
    let its = client-lent c.args.words.now _ c.requires c.client_head-h.ensures in
    threshold_differs _ _ _ _ _ _ its _ c.valid_row.ensures c.if-not-valid_row.false
    c.if-words-n.false c.if-words-m.true

pub bounds-words-2 : goal.bounds-words-2
bounds-words-2 c =
    let long : length c.args.words.now ≡ client_record_size = (client-held response_words c.args.words.now c.requires).size in
    omega (arith, long)

pub returns-then-words-k : goal.returns-then-words-k
returns-then-words-k c =
    let its = client-lent c.args.words.now _ c.requires c.client_head-h.ensures in
    number_differs _ _ _ _ _ _ its _ c.valid_row.ensures c.if-not-valid_row.false
    c.if-words-n.false c.if-words-m.false c.if-words-k.true

pub requests_named-requires : goal.requests_named-requires
requests_named-requires c =
    let long : length c.args.words.now ≡ client_record_size = (client-held response_words c.args.words.now c.requires).size in
    let its = client-lent c.args.words.now _ c.requires c.client_head-h.ensures in
    let a = c.args in
    omega (
      arith,
      long,
      servers-few a.n a.m a.clients a.k _ _ its _ c.valid_row.ensures
          c.if-not-valid_row.false c.if-words-n.false (client-row response_words c.args.words.now c.requires),
    )

pub returns : goal.returns
returns c =
    let its = client-lent c.args.words.now _ c.requires c.client_head-h.ensures in
    named_decides _ _ _ _ _ _ its _ c.valid_row.ensures c.if-not-valid_row.false
    c.if-words-n.false c.if-words-m.false c.if-words-k.false _ c.requests_named.ensures
