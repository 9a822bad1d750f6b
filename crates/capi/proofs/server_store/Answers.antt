-- Each arm is given which answer it is.
use Rattle.capi.proofs.server_store.Goals as goal

pub put_counts-requires : goal.put_counts-requires
put_counts-requires c = let few = c.requires.3.few _ c.in-Ok.is in (c.requires.1, few.0, few.1)

pub returns-in-Ok : goal.returns-in-Ok
returns-in-Ok c = (rw c.in-Ok.is, rw c.in-Ok.is c.put_server.ensures, rw c.in-Ok.is c.put_counts.ensures)

pub returns-in-Err : goal.returns-in-Err
returns-in-Err c = (rw c.in-Err.is c.code_of.ensures, rw c.in-Err.is, rw c.in-Err.is)
