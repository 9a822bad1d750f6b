-- `script_numbers::add_digit` meets its contract: each test decides the definition's.
use Rattle.script_numbers.proofs.ReadLaws.{digit_low, digit_high, digit_large, digit_fits}
use Rattle.script_numbers.proofs.add_digit.Goals as goal

pub returns-then-b-lt48 : goal.returns-then-b-lt48
returns-then-b-lt48 c = search digit_low

pub returns-then-b-gt57 : goal.returns-then-b-gt57
returns-then-b-gt57 c = search digit_high

pub returns-then-y-gt-LARGEST_32 : goal.returns-then-y-gt-LARGEST_32
returns-then-y-gt-LARGEST_32 c = search digit_large

pub returns : goal.returns
returns c = search digit_fits
