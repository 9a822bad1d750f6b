-- `sim_changes::end_epoch` meets its contract: the block without flags is a valid one.
use Rattle.sim_changes.proofs.Parties.{client_in_lem}
use Rattle.sim_changes.proofs.Epochs.{epoch_ends}
use borrow.Author.Rules.{rules}
use Rattle.sim_changes.proofs.end_epoch.Statement.{statement}
use Rattle.sim_changes.proofs.end_epoch.Tie as tie

clear-client-requires : tie.Need-clear_client-requires
clear-client-requires c κs =
    let a = c.args in
    client_in_lem a.w.now a.k.0 c.requires

same_length : tie.Need-shape_of-w
same_length c = search rules

returns : tie.Need-returns
returns c =
    let a = c.args in
    epoch_ends a.w.now a.k.0 c.requires _ c.clear_client.ensures

pub end_epoch_spec : {M : Type 1} → statement M
end_epoch_spec = tie.close (tie.spec clear-client-requires same_length returns)
