-- `sim_blocks::fits_client_block` meets its contract: the record, then the flags.
use Rattle.sim_blocks.proofs.TestLaws.{record_unfit, record_few, flags-decide}
use Rattle.sim_blocks.proofs.fits_client_block.Goals as goal

pub returns-then-not-fits_client : goal.returns-then-not-fits_client
returns-then-not-fits_client c = search record_unfit

pub fits_flags-requires : goal.fits_flags-requires
fits_flags-requires c = search record_few

pub returns : goal.returns
returns c = search flags-decide
