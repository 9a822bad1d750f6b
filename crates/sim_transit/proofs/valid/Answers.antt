-- `sim_transit::valid` meets its contract: the five tests in the definition's order.
use Rattle.sim_transit.proofs.ValidLaws.{valid-size, valid-many, valid-slots, valid-numbers, valid-rest}
use Rattle.sim_transit.proofs.valid.Goals as goal

pub returns-then-t-ne-TRANSIT_WORDS : goal.returns-then-t-ne-TRANSIT_WORDS
returns-then-t-ne-TRANSIT_WORDS c = search valid-size

pub returns-then-len-gt-MESSAGES : goal.returns-then-len-gt-MESSAGES
returns-then-len-gt-MESSAGES c = search valid-many

pub slots_valid-requires : goal.slots_valid-requires
slots_valid-requires c = record { size = c.if-t-ne-TRANSIT_WORDS.false; few = c.if-len-gt-MESSAGES.false }

pub returns-then-not-slots_valid : goal.returns-then-not-slots_valid
returns-then-not-slots_valid c = search valid-slots

pub numbers_ascend-requires : goal.numbers_ascend-requires
numbers_ascend-requires c = record { size = c.if-t-ne-TRANSIT_WORDS.false; few = c.if-len-gt-MESSAGES.false }

pub returns-then-not-numbers_ascend : goal.returns-then-not-numbers_ascend
returns-then-not-numbers_ascend c = search valid-numbers

pub rest_zero-requires : goal.rest_zero-requires
rest_zero-requires c = record { size = c.if-t-ne-TRANSIT_WORDS.false; few = c.if-len-gt-MESSAGES.false }

pub returns : goal.returns
returns c = search valid-rest
