-- `sim_layout::has_server` meets its contract: the word is the setting's number.
use Prim.Native.Nat.{ℕ}
use mathlib.Core.Path.{ap, ◌∙◌}
use native.Mathlib.Omega.{arith}
use Rattle.ids.specs.Limits.{within}
use Rattle.sim_layout.proofs.ReadLaws.{servers-word, words_long}
use Rattle.sim_layout.proofs.has_server.Goals as goal

pub bounds-w-0 : goal.bounds-w-0
bounds-w-0 c = omega (arith, words_long _ c.requires)

pub returns : goal.returns
returns c = c.within_limit.ensures ∙ ap (λ (x : ℕ). within c.args.j.0 x) (servers-word c.args.w.now)
