-- The line from `at` on is cut at its first space, and what stands before it is the number.
use Rattle.std.proofs.Common.{◌≡◌, None, rules}
use Rattle.script_lines.proofs.FirstLaws.{field_unended, field_found, field_unread}
use Rattle.script_lines.proofs.read_field.Goals as goal

pub returns-then-p-line : goal.returns-then-p-line
returns-then-p-line c = field_unended _ _ _ c.word_end-p.ensures c.if-p-line.true

pub returns-in_err-x : goal.returns-in_err-x
returns-in_err-x c =
    let e : c.from_residual.result ≡ None = search rules in
    rw e (field_unread _ _ _ c.word_end-p.ensures c.if-p-line.false _ c.read_number.ensures.value c.in_err-x.was)

pub returns : goal.returns
returns c = field_found _ _ _ c.word_end-p.ensures c.if-p-line.false _ c.read_number.ensures.value _ c.in_ok-x.was
