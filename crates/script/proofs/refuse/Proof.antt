-- `script::refuse` meets its contract: the stage is stored, and the line printed.
use native.Mathlib.Omega.{arith}
use Rattle.script_lines.proofs.PrintedLaws.{refused-short}
use Rattle.script.proofs.StepLaws.{refused_does}
use borrow.Author.Rules.{rules}
use Rattle.script.proofs.refuse.Statement.{statement}
use Rattle.script.proofs.refuse.Tie as tie

returns : tie.Need-returns
returns c =
    let a = c.args in
    refused_does a.w.now a.out.now a.at c.requires.0 c.requires.1 a.x _ _ c.before.before.put_refused.ensures

pub refuse_spec : {M : Type 1} → statement M
refuse_spec =
    tie.close
    (tie.spec
    (λ c. search rules)
    (λ c κs. omega (arith, refused-short c.args.x, c.requires.0.room))
    (λ c. search rules)
    (λ c. search rules)
    returns)
