-- `sim_blocks::fits_flags` meets its contract: at most 1, none behind the servers, none outside an epoch.
use Rattle.sim_blocks.proofs.TestLaws.{flags_large, flags-behind, flags_epoch, flags-outside}
use Rattle.sim_blocks.proofs.BlockParts.{rest_of}
use Rattle.sim_blocks.proofs.fits_flags.Goals as goal

pub at_most-requires : goal.at_most-requires
at_most-requires c = tt

pub returns-then-not-at_most : goal.returns-then-not-at_most
returns-then-not-at_most c = search flags_large

pub at_most-requires-2 : goal.at_most-requires-2
at_most-requires-2 c = tt

pub returns-then-not-at_most-2 : goal.returns-then-not-at_most-2
returns-then-not-at_most-2 c = search (flags-behind, rest_of)

pub returns-then-running : goal.returns-then-running
returns-then-running c = search (flags_epoch, rest_of)

pub at_most-requires-3 : goal.at_most-requires-3
at_most-requires-3 c = tt

pub returns : goal.returns
returns c = search (flags-outside, rest_of)
