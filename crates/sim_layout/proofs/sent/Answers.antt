-- `sim_layout::sent` meets its contract: the word is the system's count.
use native.Mathlib.Omega.{arith}
use Rattle.sim_layout.proofs.ReadLaws.{words_long, sent_word}
use Rattle.sim_layout.proofs.sent.Goals as goal

pub bounds-w-5 : goal.bounds-w-5
bounds-w-5 c = omega (arith, words_long _ c.requires)

pub returns : goal.returns
returns c = search sent_word
