-- `quorum::default_threshold` meets its contract: each return is one case of the definition.
use Rattle.quorum.proofs.ReturnLaws.{no_default, default_given, few_servers}
use Rattle.quorum.proofs.SaysLaws.{threshold_said}
use native.Mathlib.Omega.{arith}
use Rattle.quorum.proofs.default_threshold.Goals as goal

pub returns-then-not-within_limit : goal.returns-then-not-within_limit
returns-then-not-within_limit c = let said = threshold_said _ _ (search no_default) in record { value = said.0; numbers = said.1 }

pub overflow_mul-result : goal.overflow_mul-result
overflow_mul-result c = record { fits = omega (arith, few_servers c.args.n _ c.within_limit.ensures c.if-not-within_limit.false) }

pub overflow_add-result : goal.overflow_add-result
overflow_add-result c = record { fits = omega (arith, few_servers c.args.n _ c.within_limit.ensures c.if-not-within_limit.false) }

pub returns : goal.returns
returns c = let said = threshold_said _ _ (search default_given) in record { value = said.0; numbers = said.1 }
