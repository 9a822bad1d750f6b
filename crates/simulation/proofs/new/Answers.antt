-- `simulation::new` meets its contract: each return is one case of the definition.
use Rattle.simulation.proofs.NewLaws.{new_size, new_range, new_clients, new_asks, new_starts, new_said}
use Rattle.simulation.proofs.new.Goals as goal

pub returns-then-w-ne-SIMULATION_WORDS : goal.returns-then-w-ne-SIMULATION_WORDS
returns-then-w-ne-SIMULATION_WORDS c = let said = let a = c.args in
    new_said _ _ _ _ (new_size a.s a.w.now c.if-w-ne-SIMULATION_WORDS.true) in record { new_leaves = said.0; numbers = said.1 }

pub returns-then-not-in_range_up_to : goal.returns-then-not-in_range_up_to
returns-then-not-in_range_up_to c = let said = let a = c.args in
    new_said _ _ _ _ (new_range a.s a.w.now c.if-w-ne-SIMULATION_WORDS.false _ c.in_range_up_to.ensures c.if-not-in_range_up_to.true) in record { new_leaves = said.0; numbers = said.1 }

pub returns-then-not-within_limit : goal.returns-then-not-within_limit
returns-then-not-within_limit c = let said = let a = c.args in
    new_said _ _ _ _ (new_clients a.s a.w.now c.if-w-ne-SIMULATION_WORDS.false _ c.in_range_up_to.ensures
    c.if-not-in_range_up_to.false _ c.within_limit.ensures c.if-not-within_limit.true) in record { new_leaves = said.0; numbers = said.1 }

pub start-requires : goal.start-requires
start-requires c = let a = c.args in
    new_asks a.s a.w.now c.if-w-ne-SIMULATION_WORDS.false _
    c.in_range_up_to.ensures c.if-not-in_range_up_to.false _
    c.within_limit.ensures c.if-not-within_limit.false

pub returns : goal.returns
returns c = let said = let a = c.args in
    new_said _ _ _ _ (new_starts a.s a.w.now c.if-w-ne-SIMULATION_WORDS.false _
    c.in_range_up_to.ensures
    c.if-not-in_range_up_to.false _ c.within_limit.ensures
    c.if-not-within_limit.false _ c.start.ensures) in record { new_leaves = said.0; numbers = said.1 }
