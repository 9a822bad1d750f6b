-- Each arm is given which act it is, and its stores are the act's.
use Rattle.std.proofs.Common.{rules}
use Rattle.sim_changes.proofs.ServerEvents.{storing_in, storing_still, ask_stored, take-slot, take-stored}
use Rattle.sim_changes.proofs.store_server.Goals as goal

pub put_server-requires : goal.put_server-requires
put_server-requires c = search (rules, storing_in)

pub mark_message-requires : goal.mark_message-requires
mark_message-requires c = search take-slot

pub put_server-requires-in-Take : goal.put_server-requires-in-Take
put_server-requires-in-Take c = search (rules, storing_still)

pub returns-in-Check : goal.returns-in-Check
returns-in-Check c = search ask_stored

pub returns-in-Take : goal.returns-in-Take
returns-in-Take c = search take-stored
