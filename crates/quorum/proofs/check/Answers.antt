-- `quorum::check` meets its contract: each return is one case of the definition.
use Rattle.quorum.proofs.ReturnLaws.{check-refuses, in_bounds, check_judges}
use Rattle.quorum.proofs.SaysLaws.{check-said}
use Rattle.quorum.proofs.check.Goals as goal

pub returns-then-not-in_range : goal.returns-then-not-in_range
returns-then-not-in_range c = let said = let a = c.args in
    check-said _ _ _ _ (check-refuses a.n a.m a.f _ c.in_range.ensures c.if-not-in_range.true) in record { value = said.0; numbers = said.1 }

pub judge-requires : goal.judge-requires
judge-requires c = let a = c.args in
    in_bounds a.n a.m a.f _ c.in_range.ensures c.if-not-in_range.false

pub returns : goal.returns
returns c = let said = let a = c.args in
    check-said _ _ _ _ (check_judges a.n a.m a.f _ c.in_range.ensures _ c.if-not-in_range.false c.judge.ensures) in record { value = said.0; numbers = said.1 }
