-- `script_lines::put_header` meets its contract: the four numbers behind the word, and a newline.
use native.Mathlib.Omega.{arith}
use lib.ListN.{length-set}
use Rattle.script_lines.proofs.PrintedLaws.{length-header, put_heading}
use Rattle.script_lines.proofs.put_header.Statement.{statement}
use Rattle.script_lines.proofs.put_header.Tie as tie

returns : tie.Need-returns
returns c =
    let a = c.args in
    put_heading a.s a.out.now _ _ _ _ _ c.put_four-q.ensures c.put_word-p.ensures

pub put_header_spec : {M : Type 1} → statement M
put_header_spec =
    tie.close
    (tie.spec
    (λ c κs. omega (arith, length-header c.args.s))
    (λ c κs. omega (arith, length-header c.args.s))
    (λ c. omega (arith, length-header c.args.s))
    (λ c. omega (arith, length-header c.args.s))
    (λ c. let d = c.put_four-q in omega (arith, length-set d.new.out d.result 10))
    returns)
