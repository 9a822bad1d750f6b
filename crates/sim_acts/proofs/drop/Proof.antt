-- `sim_acts::drop` meets its contract: each return is one case of the event.
use Rattle.sim_acts.proofs.Silent.{drop_missing, used, drop_leaves}
use borrow.Author.Rules.{rules}
use Rattle.sim_acts.proofs.drop.Statement.{statement}
use Rattle.sim_acts.proofs.drop.Tie as tie

returns : tie.Need-returns-then-i-in_transit
returns c =
    drop_missing _ _ c.requires c.find_present-i.ensures c.before.in_transit.ensures c.if-i-in_transit.true

remove-requires : tie.Need-remove_message-requires
remove-requires c κs =
    let e = c.before in
    record { valid = search rules; used = used _ _ c.requires c.find_present-i.ensures e.before.in_transit.ensures c.if-i-in_transit.false }

returns-2 : tie.Need-returns
returns-2 c =
    let e = c.before.before.before.before in
    drop_leaves _ _ c.requires c.find_present-i.ensures e.before.in_transit.ensures c.if-i-in_transit.false
    c.remove_message.ensures

pub drop_spec : {M : Type 1} → statement M
drop_spec =
    tie.close
    (tie.spec
    (λ c κs. search rules)
    (λ c κs. search rules)
    (λ c. search rules)
    returns
    remove-requires
    (λ c. search rules)
    returns-2)
