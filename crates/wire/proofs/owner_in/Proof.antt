-- `wire::owner_in` meets its contract: a RESPONSE has two bytes more.
use Rattle.wire.proofs.FormatLaws.{length-response, owner_in, no_owner_in}
use native.Mathlib.Omega.{arith}
use Rattle.wire.proofs.owner_in.Statement.{statement}
use Rattle.wire.proofs.owner_in.Tie as tie

pub owner_in_spec : {M : Type 1} → statement M
owner_in_spec =
    tie.close
    (tie.spec
    (λ c κs. omega (arith, length-response _ c.if-kind-eq5.true))
    (λ c. search owner_in)
    (λ c. search no_owner_in))
