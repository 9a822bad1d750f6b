-- Each turn is a step of the definition, and so is each return.
use Rattle.sim_transit.proofs.ValidLaws.{climbing_low, climbing_high, climbing_more, climbing_all}
use Rattle.sim_transit.proofs.numbers_ascend.Goals as goal

pub returns-then-number-last : goal.returns-then-number-last
returns-then-number-last c = search climbing_low

pub returns-then-sent-number : goal.returns-then-sent-number
returns-then-sent-number c = search climbing_high

pub loop-i-preserved : goal.loop-i-preserved
loop-i-preserved c = search climbing_more

pub returns : goal.returns
returns c = search climbing_all
