-- `sim_changes::down_flag` meets its contract: one test, the other way round.
use mathlib.Core.Path.{sym, ◌∙◌}
use borrow.Author.Rules.{rules}
use Rattle.sim_changes.proofs.down_flag.Statement.{statement}
use Rattle.sim_changes.proofs.down_flag.Tie as tie

is-up-requires : tie.Need-is_up-requires
is-up-requires c κs = search rules

returns : tie.Need-returns-then-is_up
returns c = rw (sym c.is_up.ensures ∙ c.if-is_up.true)

returns-2 : tie.Need-returns
returns-2 c = rw (sym c.is_up.ensures ∙ c.if-is_up.false)

pub down_flag_spec : {M : Type 1} → statement M
down_flag_spec = tie.close (tie.spec is-up-requires returns returns-2)
