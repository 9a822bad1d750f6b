-- `script_lines::put_setting` meets its contract: the four numbers behind the word.
use native.Mathlib.Omega.{arith}
use Rattle.script_lines.proofs.PrintedLaws.{length-setting, put-opening}
use borrow.Author.Rules.{rules}
use Rattle.script_lines.proofs.put_setting.Statement.{statement}
use Rattle.script_lines.proofs.put_setting.Tie as tie

returns : tie.Need-returns
returns c =
    let a = c.args in
    put-opening a.s a.out.now _ _ _ _ _ c.put_four.ensures c.put_word-p.ensures

pub put_setting_spec : {M : Type 1} → statement M
put_setting_spec =
    tie.close
    (tie.spec
    (λ c κs. omega (arith, length-setting c.args.s))
    (λ c κs. omega (arith, length-setting c.args.s))
    (λ c. search rules)
    returns)
