-- `script_numbers::read_number` meets its contract: no digit, one, or several of which the first is not 0.
use Rattle.script_numbers.proofs.ReadLaws.{number-empty, number_led, number_single, number-several, number-said}
use Rattle.script_numbers.proofs.read_number.Goals as goal

pub returns-then-s-eq0 : goal.returns-then-s-eq0
returns-then-s-eq0 c = let said = number-said _ _ (search number-empty) in record { value = said.0; numbers = said.1 }

pub returns-then-s-eq1 : goal.returns-then-s-eq1
returns-then-s-eq1 c = let said = number-said _ _ (search number_single) in record { value = said.0; numbers = said.1 }

pub returns-then-s-eq48 : goal.returns-then-s-eq48
returns-then-s-eq48 c = let said = number-said _ _ (search number_led) in record { value = said.0; numbers = said.1 }

pub returns : goal.returns
returns c = let said = number-said _ _ (search number-several) in record { value = said.0; numbers = said.1 }
