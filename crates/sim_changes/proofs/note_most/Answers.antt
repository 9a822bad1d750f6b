-- The word behind the number of messages sent is the only one stored.
use Rattle.std.proofs.Common.{arith}
use Rattle.sim_changes.proofs.Epochs.{few-word, noted_words}
use Rattle.sim_changes.proofs.note_most.Goals as goal

pub overflow_cast-w : goal.overflow_cast-w
overflow_cast-w c = omega (arith, few-word c.args.w.now c.requires.1)

pub worst_down-worst-requires : goal.worst_down-worst-requires
worst_down-worst-requires c = (c.requires.0, few-word c.args.w.now c.requires.1)

pub returns : goal.returns
returns c = noted_words c.args.w.now _ _ c.worst_down-worst.ensures c.max.ensures
