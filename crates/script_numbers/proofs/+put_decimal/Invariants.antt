-- The digits before the last are those of x / 10, which is below x.
use Rattle.script_numbers.proofs.+put_decimal.Given as goal

abbrev pub decreases-put_decimal : goal.decreases-put_decimal
decreases-put_decimal l = l.x
