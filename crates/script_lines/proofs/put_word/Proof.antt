-- `script_lines::put_word` meets its contract: a space behind the word.
use Rattle.script_numbers.proofs.PutLaws.{put-behind}
use borrow.Author.Rules.{rules}
use Rattle.script_lines.proofs.put_word.Statement.{statement}
use Rattle.script_lines.proofs.put_word.Tie as tie

returns : tie.Need-returns
returns c =
    let a = c.args in
    put-behind a.out.now _ _ _ _ a.w.now c.put_bytes-p.ensures

pub put_word_spec : {M : Type 1} → statement M
put_word_spec =
    tie.close
    (tie.spec
    (λ c κs. search rules)
    (λ c. search rules)
    (λ c. search rules)
    (λ c. search rules)
    returns)
