-- `script::work` meets its contract: the line by its stage.
use Rattle.script.proofs.StepLaws.{opening_does, closed_does}
use borrow.Author.Rules.{rules}
use Rattle.script.proofs.work.Statement.{statement}
use Rattle.script.proofs.work.Tie as tie

returns : tie.Need-returns-then-w-eq-OPENING
returns c =
    let o = c.before.before.before.before in
    let a = c.args in
    opening_does a.w.now a.out.now a.at c.requires _ _ _ c.if-w-eq-OPENING.true o.«open».ensures

returns-3 : tie.Need-returns
returns-3 c =
    let a = c.args in
    closed_does a.w.now a.out.now a.at c.requires c.if-w-eq-OPENING.false c.if-w-eq-RUNNING.false

pub work_spec : {M : Type 1} → statement M
work_spec =
    tie.close
    (tie.spec
    (λ c. search rules)
    (λ c κs. search rules)
    (λ c. search rules)
    (λ c. search rules)
    returns
    (λ c. search rules)
    (λ c κs. search rules)
    (λ c. search rules)
    (λ c. search rules)
    (λ c. c.answer.ensures)
    returns-3)
