-- `script::pass` meets its contract: the line is counted, and its refusal printed.
use Rattle.script.proofs.StepLaws.{no_fits, number_small, passing_does}
use borrow.Author.Rules.{rules}
use Rattle.script.proofs.pass.Statement.{statement}
use Rattle.script.proofs.pass.Tie as tie

put-no-requires : tie.Need-put_no-requires
put-no-requires c κs =
    let a = c.args in
    no_fits a.out.now a.at c.requires.0.room _ a.x (number_small a.w.now a.out.now a.at c.requires.0 c.requires.1)

returns : tie.Need-returns
returns c =
    let a = c.args in
    passing_does a.w.now a.out.now a.at c.requires.0 c.requires.1 a.x _ _ c.put_no.ensures

pub pass_spec : {M : Type 1} → statement M
pass_spec =
    tie.close
    (tie.spec
    (λ c. search rules)
    (λ c. search rules)
    (λ c. search rules)
    put-no-requires
    (λ c. search rules)
    (λ c. search rules)
    returns)
