-- `sim_layout::put_server` meets its contract: the block is lent, and what the callee says of it is said of the simulation's block.
use Rattle.sim_layout.proofs.LendLaws.{server-written}
use Rattle.server.specs.Record.{server_of}
use Rattle.words.specs.Records.{server_words}
use lib.Seq.{sets, length-sets}
use Rattle.sim_layout.proofs.put_server.Goals as goal

pub returns : goal.returns
returns c = let a = c.args in
    server-written a.w.now a.j c.requires.0 (λ b. sets b 1 (server_words (server_of a.h a.row.now))) _
    (λ l. length-sets l 1 (server_words (server_of a.h a.row.now))) c.put_server.ensures
