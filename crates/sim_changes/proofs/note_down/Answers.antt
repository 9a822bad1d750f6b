-- Each turn's client has noted it.
use native.Mathlib.Omega.{arith}
use Rattle.sim_changes.proofs.Parties.{words_long, clients_fit}
use Rattle.sim_changes.proofs.Epochs.{marking_none, marking_in, marking_more, marking_all}
use Rattle.sim_changes.proofs.note_down.Goals as goal

pub bounds-w-3 : goal.bounds-w-3
bounds-w-3 c = omega (arith, words_long c.args.w.now c.requires.valid)

pub overflow_cast-clients : goal.overflow_cast-clients
overflow_cast-clients c = record { fits = omega (arith, clients_fit c.args.w.now c.requires.valid) }

pub loop-i-init : goal.loop-i-init
loop-i-init c = marking_none c.args.w.now c.args.j c.requires

pub mark_client-requires : goal.mark_client-requires
mark_client-requires c = marking_in _ _ _ _ _ c.loop-i.invariant c.loop-i-test.true

pub loop-i-preserved : goal.loop-i-preserved
loop-i-preserved c = marking_more _ _ _ _ _ c.loop-i.invariant c.loop-i-test.true _ c.mark_client.ensures

pub returns : goal.returns
returns c = marking_all _ _ _ _ _ c.loop-i.invariant c.loop-i-test.false _ c.note_most.ensures
