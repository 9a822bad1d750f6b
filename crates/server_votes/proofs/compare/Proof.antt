-- `server_votes::compare` meets its contract: the two timestamps decide. Where an older pair is removed, the row has room for what follows.
use Rattle.rows.specs.Rows.{Padded}
use Rattle.server_votes.proofs.ActLaws.{compares_older, deleted-padded, compares_newer, compares_same}
use borrow.Author.Rules.{rules}
use Rattle.server_votes.proofs.compare.Statement.{statement}
use Rattle.server_votes.proofs.compare.Tie as tie

-- the older pair is gone
module _ (c : tie.After-delete-before) where
  padded : Padded c.delete-before.new.row c.delete-before.result.votes.len
  padded = deleted-padded _ c.args.tag c.args.r c.args.v _ c.requires.0 _ _ _ c.delete-before.ensures

act-requires : tie.Need-act-after-requires
act-requires c κs = padded c.before.before.before.before

returns-2 : tie.Need-returns-then-t-now
returns-2 c =
    compares_newer _ c.args.tag c.args.r c.args.v _ c.requires.0 _ _ _ c.delete-before.ensures _ _ _ c.requires.1
    c.if-t-now.true c.act-after.ensures c.joined.ensures

pub compare_spec : {M : Type 1} → statement M
compare_spec =
    tie.close
    (tie.spec
    (λ c κs. search rules)
    (λ c. search compares_older)
    (λ c κs. search rules)
    act-requires
    (λ c κs. search rules)
    (λ c. search rules)
    returns-2
    (λ c κs. search rules)
    (λ c. search rules)
    (λ c. search compares_same))
