-- `script_lines::put_refused` meets its contract: two words, one put where the other ended.
use mathlib.Core.Path.{ap}
use lib.ListN.{length}
use native.Mathlib.Omega.{arith}
use Rattle.script_numbers.specs.Decimals.{decimal}
use Rattle.script_lines.specs.Words.{text}
use Rattle.script_lines.specs.Printed.{refused_line}
use Rattle.script_lines.proofs.PrintedLaws.{length-refused, puts_none, puts-more, puts-last}
use borrow.Author.Rules.{rules}
use Rattle.script_lines.proofs.put_refused.Statement.{statement}
use Rattle.script_lines.proofs.put_refused.Tie as tie

put-number-requires : tie.Need-put_number-requires
put-number-requires c κs =
    omega (arith, length-refused c.args.refusal, ap (λ x. length (decimal x)) c.code_of.ensures)

returns : tie.Need-returns
unfolding refused_line
returns c =
    let d₂ = c.before.before in
    let a = c.args in
    let e₁ = puts-more (puts_none a.out.now a.at) (text "no") c.put_word-p.ensures in
    rw d₂.before.code_of.ensures at (puts-last e₁ (decimal d₂.before.code_of.result) c.put_number.ensures)

pub put_refused_spec : {M : Type 1} → statement M
put_refused_spec =
    tie.close
    (tie.spec
    (λ c κs. omega (arith, length-refused c.args.refusal))
    (λ c κs. search rules)
    put-number-requires
    (λ c. search rules)
    returns)
