-- Each turn puts one flag.
use native.Mathlib.Omega.{arith}
use Rattle.sim_changes.proofs.Parties.{words_long, servers_fit}
use Rattle.sim_changes.proofs.Epochs.{flagging_none, flagging_server, flagging_client, flagging_more, flagging_sized, flagging_all}
use Rattle.sim_changes.proofs.begin_epoch.Goals as goal

pub bounds-w-0 : goal.bounds-w-0
bounds-w-0 c = omega (arith, words_long c.args.w.now c.requires.0.valid)

pub overflow_cast-n : goal.overflow_cast-n
overflow_cast-n c = record { fits = omega (arith, servers_fit c.args.w.now c.requires.0.valid) }

pub loop-i-init : goal.loop-i-init
loop-i-init c = flagging_none c.args.w.now c.args.k.0 c.requires.0

pub down_flag-x-requires : goal.down_flag-x-requires
down_flag-x-requires c = flagging_server _ _ _ _ _ c.loop-i.invariant c.loop-i-test.true

pub put_flag-requires : goal.put_flag-requires
put_flag-requires c = flagging_client _ _ _ _ _ c.loop-i.invariant c.loop-i-test.true

pub loop-i-preserved : goal.loop-i-preserved
loop-i-preserved c = flagging_more _ _ _ _ _ c.loop-i.invariant c.loop-i-test.true _ c.down_flag-x.ensures _ c.put_flag.ensures

pub note_most-requires : goal.note_most-requires
note_most-requires c = flagging_sized _ _ _ _ _ c.loop-i.invariant

pub returns : goal.returns
returns c = flagging_all _ _ _ _ _ c.loop-i.invariant c.loop-i-test.false c.requires.1 _ c.note_most.ensures
