-- `sim_layout::has_client` meets its contract: the word is the setting's number.
use Prim.Native.Nat.{ℕ}
use mathlib.Core.Path.{ap, ◌∙◌}
use native.Mathlib.Omega.{arith}
use Rattle.ids.specs.Limits.{within}
use Rattle.sim_layout.proofs.ReadLaws.{clients-word, words_long}
use Rattle.sim_layout.proofs.has_client.Goals as goal

pub bounds-w-3 : goal.bounds-w-3
bounds-w-3 c = omega (arith, words_long _ c.requires)

pub returns : goal.returns
returns c = c.within_limit.ensures ∙ ap (λ (x : ℕ). within c.args.k.0 x) (clients-word c.args.w.now)
