-- `sim_layout::servers` meets its contract: the word is the setting's number, which is small.
use native.Mathlib.Omega.{arith}
use Rattle.sim_layout.proofs.ReadLaws.{servers-word, words_long, few_servers}
use Rattle.sim_layout.proofs.servers.Goals as goal

pub bounds-w-0 : goal.bounds-w-0
bounds-w-0 c = omega (arith, words_long _ c.requires)

pub overflow_cast-result : goal.overflow_cast-result
overflow_cast-result c = record { fits = omega (arith, servers-word c.args.w.now, few_servers _ c.requires) }

pub returns : goal.returns
returns c = search servers-word
