-- `script::last` meets its contract: without bytes since the last newline there is no last line.
use Rattle.script.proofs.StepLaws.{last_none, last_line_lem}
use borrow.Author.Rules.{rules}
use Rattle.script.proofs.last.Statement.{statement}
use Rattle.script.proofs.last.Tie as tie

returns : tie.Need-returns-then-w-eq0
returns c =
    last_none c.args.w.now c.args.out.now 0 c.requires c.if-w-eq0.true

returns-2 : tie.Need-returns
returns-2 c =
    last_line_lem c.args.w.now c.args.out.now 0 c.requires c.if-w-eq0.false _ _ _ c.work.ensures

pub last_spec : {M : Type 1} → statement M
last_spec =
    tie.close
    (tie.spec
    (λ c. search rules)
    returns
    (λ c κs. search rules)
    (λ c. search rules)
    (λ c. search rules)
    returns-2)
