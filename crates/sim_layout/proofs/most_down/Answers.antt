-- `sim_layout::most_down` meets its contract: the word is the system's number.
use native.Mathlib.Omega.{arith}
use Rattle.sim_layout.proofs.ReadLaws.{words_long, most-word}
use Rattle.sim_layout.proofs.most_down.Goals as goal

pub bounds-w-6 : goal.bounds-w-6
bounds-w-6 c = omega (arith, words_long _ c.requires)

pub returns : goal.returns
returns c = search most-word
