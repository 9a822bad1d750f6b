-- Each arm is given which act it is, and its two stores are the act's.
use mathlib.Core.Logic.{⊎_elim}
use Rattle.std.proofs.Common.{rules}
use Rattle.sim_changes.proofs.ClientEvents.{storing_client, storing_in, storing_still, epoch_begins, try_stored, exit_stored, response-slot}
use Rattle.sim_changes.proofs.ClientEvents.{response-stored, check-slot, check-stored}
use Rattle.sim_changes.proofs.store_client.Goals as goal

pub put_client-requires : goal.put_client-requires
put_client-requires c = search (rules, storing_in)

pub begin_epoch-requires : goal.begin_epoch-requires
begin_epoch-requires c = epoch_begins c.requires.0 c.in-Try.is c.put_client.ensures

pub end_epoch-requires : goal.end_epoch-requires
end_epoch-requires c = search storing_client

pub put_client-requires-in-Exit : goal.put_client-requires-in-Exit
put_client-requires-in-Exit c = search (rules, storing_still)

pub remove_message-requires : goal.remove_message-requires
remove_message-requires c = ⊎_elim (λ p. response-slot c.requires.0 _ _ _ p.2) (λ p. check-slot c.requires.0 _ _ _ p.2) c.in-Response.is

pub put_client-requires-in-Response : goal.put_client-requires-in-Response
put_client-requires-in-Response c = search (rules, storing_still)

pub returns-in-Try : goal.returns-in-Try
returns-in-Try c = search try_stored

pub returns-in-Exit : goal.returns-in-Exit
returns-in-Exit c = search exit_stored

pub returns-in-Response : goal.returns-in-Response
returns-in-Response c = ⊎_elim (λ p. let e = p.2 in search response-stored) (λ p. let e = p.2 in search check-stored) c.in-Response.is
