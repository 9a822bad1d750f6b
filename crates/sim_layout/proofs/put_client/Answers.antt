-- `sim_layout::put_client` meets its contract: the block is lent, and what the callee says of it is said of the simulation's block.
use Rattle.sim_layout.proofs.LendLaws.{client-written}
use Rattle.client.specs.Record.{client_of}
use Rattle.words.specs.Records.{client_words}
use lib.Seq.{sets, length-sets}
use Rattle.sim_layout.proofs.put_client.Goals as goal

pub returns : goal.returns
returns c = let a = c.args in
    client-written a.w.now a.k c.requires.0 (λ b. sets b 1 (client_words (client_of a.h a.row.now))) _
    (λ l. length-sets l 1 (client_words (client_of a.h a.row.now))) c.put_client.ensures
