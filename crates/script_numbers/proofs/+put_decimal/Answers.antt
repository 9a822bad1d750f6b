-- The digits before the last are put by the call within, and the last behind them.
use native.Mathlib.Omega.{arith}
use Rattle.script_numbers.proofs.DecimalLaws.{one_digit, more_digits}
use Rattle.script_numbers.proofs.PutLaws.{put_single, put_last}
use Rattle.script_numbers.proofs.+put_decimal.Goals as goal

pub bounds-out-at : goal.bounds-out-at
bounds-out-at t c = omega (arith, one_digit _ c.if-x-lt10.true)

pub returns-then-x-lt10 : goal.returns-then-x-lt10
returns-then-x-lt10 t c = put_single _ _ _ c.if-x-lt10.true _ c.digit_byte.ensures

pub put_decimal-p-requires : goal.put_decimal-p-requires
put_decimal-p-requires t c = (omega arith, omega (arith, more_digits _ c.if-x-lt10.false))

pub bounds-out-p : goal.bounds-out-p
bounds-out-p t c = omega (arith, more_digits _ c.if-x-lt10.false)

pub overflow_add-result-2 : goal.overflow_add-result-2
overflow_add-result-2 t c = omega (arith, more_digits _ c.if-x-lt10.false)

pub returns : goal.returns
returns t c = put_last _ _ _ c.if-x-lt10.false _ _ _ c.put_decimal-p.ensures c.digit_byte-2.ensures
