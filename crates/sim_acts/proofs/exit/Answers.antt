-- The party is there, or the event is refused.
use Rattle.ids.specs.declared.Refusal.TheVariants.{NoSuchParty}
use Rattle.system.specs.declared.Event.TheVariants.{Exit}
use Rattle.sim_changes.proofs.Answers.{no_client-exits}
use Rattle.sim_changes.proofs.Leaving.{leaves_refused}
use Rattle.sim_changes.proofs.Parties.{client_missing, client-found}
use Rattle.sim_acts.proofs.exit.Goals as goal

pub returns-then-not-has_client : goal.returns-then-not-has_client
returns-then-not-has_client c =
    leaves_refused _ (Exit c.args.k) NoSuchParty c.requires
    (no_client-exits _ _ _ _ (client_missing _ c.requires _ _ c.has_client.ensures c.if-not-has_client.true))

pub client_acts-requires : goal.client_acts-requires
client_acts-requires c = client-found _ c.requires _ _ c.has_client.ensures c.if-not-has_client.false
