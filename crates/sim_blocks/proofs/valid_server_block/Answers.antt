-- `sim_blocks::valid_server_block` meets its contract: length, first word, width, then the record.
use native.Mathlib.Omega.{arith}
use Rattle.sim_blocks.proofs.TestLaws.{server-size, server-bit, server-wide, server-decided}
use mathlib.Core.Path.{sym, ◌∙◌}
use Rattle.sim_blocks.proofs.valid_server_block.Goals as goal

pub returns-then-b-ne-SERVER_BLOCK : goal.returns-then-b-ne-SERVER_BLOCK
returns-then-b-ne-SERVER_BLOCK c = search server-size

pub bounds-b-0 : goal.bounds-b-0
bounds-b-0 c = omega arith

pub returns-then-b-gt1 : goal.returns-then-b-gt1
returns-then-b-gt1 c = search server-bit

pub holds_server_of-requires : goal.holds_server_of-requires
holds_server_of-requires c = tt

pub returns-then-not-holds_server_of : goal.returns-then-not-holds_server_of
returns-then-not-holds_server_of c = search server-wide

pub fits_server-requires : goal.fits_server-requires
fits_server-requires c = sym c.holds_server_of.ensures ∙ c.if-not-holds_server_of.false

pub returns : goal.returns
returns c = search server-decided
