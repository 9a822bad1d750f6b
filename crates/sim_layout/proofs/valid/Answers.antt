-- `sim_layout::valid` meets its contract: each return is one case of the definition.
use Rattle.sim_layout.proofs.TestLaws.{size-wrong, range-wrong, clients-wrong, parts-decide, bounds}
use native.Mathlib.Omega.{arith}
use Rattle.sim_layout.proofs.valid.Goals as goal

pub returns-then-w-ne-SIMULATION_WORDS : goal.returns-then-w-ne-SIMULATION_WORDS
returns-then-w-ne-SIMULATION_WORDS c = search size-wrong

pub returns-then-not-in_range_up_to : goal.returns-then-not-in_range_up_to
returns-then-not-in_range_up_to c = search range-wrong

pub returns-then-not-within_limit : goal.returns-then-not-within_limit
returns-then-not-within_limit c = search clients-wrong

pub overflow_cast-n : goal.overflow_cast-n
overflow_cast-n c =
    let inside = bounds c.args.w.now c.if-w-ne-SIMULATION_WORDS.false _ c.in_range_up_to.ensures c.if-not-in_range_up_to.false _ c.within_limit.ensures c.if-not-within_limit.false in
    omega (arith, inside)

pub overflow_cast-clients : goal.overflow_cast-clients
overflow_cast-clients c =
    let inside = bounds c.args.w.now c.if-w-ne-SIMULATION_WORDS.false _ c.in_range_up_to.ensures c.if-not-in_range_up_to.false _ c.within_limit.ensures c.if-not-within_limit.false in
    omega (arith, inside)

pub parts_valid-requires : goal.parts_valid-requires
parts_valid-requires c =
    let inside = bounds c.args.w.now c.if-w-ne-SIMULATION_WORDS.false _ c.in_range_up_to.ensures c.if-not-in_range_up_to.false _ c.within_limit.ensures c.if-not-within_limit.false in
    inside

pub returns : goal.returns
returns c = search parts-decide
