-- The server's entries lie side by side, and each turn makes one more of their messages pending.
use Rattle.sim_indexed.proofs.EntriesLaws.{first-may, last-may}
use Rattle.sim_indexed.proofs.RestartLaws.{server-there, restarting_none, restarting_entry, restarting_more, restarting_all}
use Rattle.sim_indexed.proofs.restart.Goals as goal

pub start-from-requires : goal.start-from-requires
start-from-requires c = first-may _ _ c.requires.0 _ (server-there _ c.requires.1)

pub start-end-requires : goal.start-end-requires
start-end-requires c = last-may _ _ c.requires.0 _ (server-there _ c.requires.1)

pub loop-at-init : goal.loop-at-init
loop-at-init c = search restarting_none

pub pend-requires : goal.pend-requires
pend-requires c = search restarting_entry

pub loop-at-preserved : goal.loop-at-preserved
loop-at-preserved c = search restarting_more

pub returns : goal.returns
returns c = search restarting_all
