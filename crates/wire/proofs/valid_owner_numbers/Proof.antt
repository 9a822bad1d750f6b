-- `wire::valid_owner_numbers` meets its contract: both numbers are 0, or neither is.
use native.Mathlib.Omega.{arith}
use Rattle.wire.proofs.NumbersLaws.{owner_zero, owner_some}
use Rattle.wire.proofs.valid_owner_numbers.Statement.{statement}
use Rattle.wire.proofs.valid_owner_numbers.Tie as tie

returns-2 : tie.Need-returns
returns-2 c = owner_some c.args.owner c.args.timestamp (omega arith) (omega arith) c.if-owner-eq0.false

pub valid_owner_numbers_spec : {M : Type 1} → statement M
valid_owner_numbers_spec =
    tie.close
    (tie.spec
    (λ c. search owner_zero)
    returns-2)
