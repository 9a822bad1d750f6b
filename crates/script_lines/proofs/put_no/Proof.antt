-- `script_lines::put_no` meets its contract: three words, each put where the last one ended.
use mathlib.Core.Path.{ap}
use lib.ListN.{length}
use native.Mathlib.Omega.{arith}
use Rattle.script_numbers.specs.Decimals.{decimal}
use Rattle.script_lines.specs.Words.{text}
use Rattle.script_lines.specs.Printed.{no_line}
use Rattle.script_lines.proofs.PrintedLaws.{length_no, puts_none, puts-more, puts-last}
use borrow.Author.Rules.{rules}
use Rattle.script_lines.proofs.put_no.Statement.{statement}
use Rattle.script_lines.proofs.put_no.Tie as tie

module _ (c : tie.After-put_word-q) where
  abbrev one : tie.After-put_number-p
  one = c.before.before.before.before.before.before

put-number-requires-2 : tie.Need-put_number-requires
put-number-requires-2 c κs =
    let a = c.args in
    omega (arith, length_no a.number a.refusal, ap (λ x. length (decimal x)) c.code_of.ensures)

returns : tie.Need-returns
unfolding no_line
returns c =
    let d₃ = c.before.before in
    let a = c.args in
    let e₁ = puts-more (puts_none a.out.now a.at) (decimal a.number) c.put_number-p.ensures in
    let e₂ = puts-more e₁ (text "no") c.put_word-q.ensures in
    rw d₃.before.code_of.ensures at (puts-last e₂ (decimal d₃.before.code_of.result) c.put_number.ensures)

pub put_no_spec : {M : Type 1} → statement M
put_no_spec =
    tie.close
    (tie.spec
    (λ c κs. let a = c.args in omega (arith, length_no a.number a.refusal))
    (λ c κs. let a = c.args in omega (arith, length_no a.number a.refusal))
    (λ c κs. search rules)
    put-number-requires-2
    (λ c. search rules)
    returns)
