-- `sim_layout::clients` meets its contract: the word is the setting's number, which is small.
use native.Mathlib.Omega.{arith}
use Rattle.sim_layout.proofs.ReadLaws.{clients-word, words_long, few_clients}
use Rattle.sim_layout.proofs.clients.Goals as goal

pub bounds-w-3 : goal.bounds-w-3
bounds-w-3 c = omega (arith, words_long _ c.requires)

pub overflow_cast-result : goal.overflow_cast-result
overflow_cast-result c = record { fits = omega (arith, clients-word c.args.w.now, few_clients _ c.requires) }

pub returns : goal.returns
returns c = search clients-word
