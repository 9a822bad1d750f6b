-- `packet::judge` meets its contract: the walk decides first.
use mathlib.Core.Path.{sym, ap}
use Rattle.ids.proofs.Choice.{fails, holds}
use Rattle.packet.specs.Inner.{judged}
use Rattle.packet.proofs.ContentsLaws.{contents_broken}
use borrow.Author.Rules.{rules}
use Rattle.packet.proofs.judge.Statement.{statement}
use Rattle.packet.proofs.judge.Tie as tie

pub judge_spec : {M : Type 1} → statement M
judge_spec =
    tie.close
    (tie.spec
    (λ c κs. search rules)
    (λ c. sym (ap judged (contents_broken _ (fails _ _ c.walks.ensures c.if-not-walks.true))))
    (λ c κs. (c.requires, holds _ _ c.walks.ensures c.if-not-walks.false))
    (λ c. search rules))
