-- `script_lines::put_number` meets its contract: one byte behind the number.
use Rattle.script_numbers.specs.Decimals.{decimal}
use Rattle.script_numbers.proofs.PutLaws.{put-behind}
use borrow.Author.Rules.{rules}
use Rattle.script_lines.proofs.put_number.Statement.{statement}
use Rattle.script_lines.proofs.put_number.Tie as tie

returns : tie.Need-returns
returns c =
    let a = c.args in
    put-behind a.out.now _ _ _ _ (decimal a.x) c.put_decimal-p.ensures

pub put_number_spec : {M : Type 1} → statement M
put_number_spec =
    tie.close
    (tie.spec
    (λ c κs. search rules)
    (λ c. search rules)
    (λ c. search rules)
    (λ c. search rules)
    returns)
