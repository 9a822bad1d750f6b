-- A byte that is no digit, one more, and the end.
use Rattle.std.proofs.Common.{◌≡◌, None, rules}
use Rattle.script_numbers.proofs.ReadLaws.{reads_more, reads_stop, reads_all}
use Rattle.script_numbers.proofs.read_digits.Goals as goal

pub returns-in_err-x : goal.returns-in_err-x
returns-in_err-x c =
    let e : c.from_residual.result ≡ None = search rules in
    rw e (reads_stop _ _ _ _ c.loop-b.invariant c.loop-b-test.true _ c.add_digit.ensures c.in_err-x.was)

pub loop-b-preserved : goal.loop-b-preserved
loop-b-preserved c = reads_more _ _ _ _ c.loop-b.invariant c.loop-b-test.true _ c.add_digit.ensures _ c.in_ok-x.was

pub returns : goal.returns
returns c = search reads_all
