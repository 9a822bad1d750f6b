-- `sim_blocks::valid_client_block` meets its contract: length, first word, width, then the rest.
use native.Mathlib.Omega.{arith}
use Rattle.sim_blocks.proofs.TestLaws.{client-size, client-bit, client-wide, client-decided}
use mathlib.Core.Path.{sym, ◌∙◌}
use Rattle.sim_blocks.proofs.valid_client_block.Goals as goal

pub returns-then-b-ne-CLIENT_BLOCK : goal.returns-then-b-ne-CLIENT_BLOCK
returns-then-b-ne-CLIENT_BLOCK c = search client-size

pub bounds-b-0 : goal.bounds-b-0
bounds-b-0 c = omega arith

pub returns-then-b-gt1 : goal.returns-then-b-gt1
returns-then-b-gt1 c = search client-bit

pub holds_client_of-requires : goal.holds_client_of-requires
holds_client_of-requires c = tt

pub returns-then-not-holds_client_of : goal.returns-then-not-holds_client_of
returns-then-not-holds_client_of c = search client-wide

pub fits_client_block-requires : goal.fits_client_block-requires
fits_client_block-requires c = (c.if-b-ne-CLIENT_BLOCK.false, sym c.holds_client_of.ensures ∙ c.if-not-holds_client_of.false)

pub returns : goal.returns
returns c = search client-decided
