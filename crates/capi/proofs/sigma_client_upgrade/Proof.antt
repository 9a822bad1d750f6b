-- `capi::sigma_client_upgrade` meets its contract: the saved words, then the room, then the record taken over.
use borrow.Author.Rules.{rules}
use Rattle.ids.proofs.Choice.{holds}
use Rattle.saved.specs.Forms.{client_now}
use Rattle.capi.proofs.UpgradeLaws.{upgrade_broken, upgrade-short, upgrade-done}
use Rattle.capi.proofs.sigma_client_upgrade.Statement.{statement}
use Rattle.capi.proofs.sigma_client_upgrade.Tie as tie

returns : tie.Need-returns-then-not-valid_client
returns c = upgrade_broken _ _ _ _ _ c.valid_client.ensures _ c.if-not-valid_client.true c.code_of.ensures

returns-2 : tie.Need-returns-then-state-lt-CLIENT_WORDS
returns-2 c =
    upgrade-short _ _ _ _ _ c.valid_client.ensures _ c.if-not-valid_client.false c.if-state-lt-CLIENT_WORDS.true c.code_of-then-state-lt-CLIENT_WORDS.ensures

take-client-requires : tie.Need-take_client-requires
take-client-requires c κs = let s = c.before.before in (holds _ _ c.valid_client.ensures c.if-not-valid_client.false, c.if-state-lt-CLIENT_WORDS.false)

returns-3 : tie.Need-returns
returns-3 c =
    upgrade-done _ _ (client_now c.args.old.now) c.args.state.now _ c.valid_client.ensures 0 c.if-not-valid_client.false _ c.if-state-lt-CLIENT_WORDS.false
    c.take_client.ensures

pub sigma_client_upgrade_spec : {M : Type 1} → statement M
sigma_client_upgrade_spec =
    tie.close
    (tie.spec
    (λ c κs. search rules)
    (λ c κs. search rules)
    returns
    (λ c κs. search rules)
    returns-2
    take-client-requires
    (λ c. search rules)
    returns-3)
