-- `capi::sigma_server_upgrade` meets its contract: the saved words, then the room, then the record taken over.
use borrow.Author.Rules.{rules}
use Rattle.ids.proofs.Choice.{holds}
use Rattle.saved.specs.Forms.{server_now}
use Rattle.capi.proofs.UpgradeLaws.{upgrade_broken, upgrade-short, upgrade-done}
use Rattle.capi.proofs.sigma_server_upgrade.Statement.{statement}
use Rattle.capi.proofs.sigma_server_upgrade.Tie as tie

returns : tie.Need-returns-then-not-valid_server
returns c = upgrade_broken _ _ _ _ _ c.valid_server.ensures _ c.if-not-valid_server.true c.code_of.ensures

returns-2 : tie.Need-returns-then-state-lt-SERVER_WORDS
returns-2 c =
    upgrade-short _ _ _ _ _ c.valid_server.ensures _ c.if-not-valid_server.false c.if-state-lt-SERVER_WORDS.true c.code_of-then-state-lt-SERVER_WORDS.ensures

take-server-requires : tie.Need-take_server-requires
take-server-requires c κs = let s = c.before.before in (holds _ _ c.valid_server.ensures c.if-not-valid_server.false, c.if-state-lt-SERVER_WORDS.false)

returns-3 : tie.Need-returns
returns-3 c =
    upgrade-done _ _ (server_now c.args.old.now) c.args.state.now _ c.valid_server.ensures 0 c.if-not-valid_server.false _ c.if-state-lt-SERVER_WORDS.false
    c.take_server.ensures

pub sigma_server_upgrade_spec : {M : Type 1} → statement M
sigma_server_upgrade_spec =
    tie.close
    (tie.spec
    (λ c κs. search rules)
    (λ c κs. search rules)
    returns
    (λ c κs. search rules)
    returns-2
    take-server-requires
    (λ c. search rules)
    returns-3)
