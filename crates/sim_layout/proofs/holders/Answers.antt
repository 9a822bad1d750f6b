-- `sim_layout::holders` meets its contract: they are counted among the clients of the setting.
use native.Mathlib.Omega.{arith}
use Rattle.sim_layout.proofs.ReadLaws.{words_long, few_clients, holders-counted}
use Rattle.sim_layout.proofs.holders.Goals as goal

pub count_inside-requires : goal.count_inside-requires
count_inside-requires c = (words_long _ c.requires, omega (arith, few_clients _ c.requires, c.clients-all.ensures))

pub returns : goal.returns
returns c = search holders-counted
