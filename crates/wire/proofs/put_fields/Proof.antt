-- `wire::put_fields` meets its contract: the front, and a RESPONSE's owner behind it.
use native.Mathlib.Omega.{arith}
use Rattle.wire.proofs.FormatLaws.{at_least, length-response, length-plain, stored-response, stored-plain}
use borrow.Author.Rules.{rules}
use Rattle.wire.proofs.put_fields.Statement.{statement}
use Rattle.wire.proofs.put_fields.Tie as tie

returns : tie.Need-returns-then-f-eq5
returns c =
    let b = c.before.before.before.before in (
      omega (arith, length-response _ b.if-f-eq5.true),
      stored-response _ _ _ _ _ b.if-f-eq5.true b.put_front.ensures c.put16.ensures,
    )

pub put_fields_spec : {M : Type 1} → statement M
put_fields_spec =
    tie.close
    (tie.spec
    (λ c κs. omega (arith, at_least c.args.f.kind))
    (λ c. search rules)
    (λ c κs. omega (arith, length-response _ c.if-f-eq5.true))
    (λ c. search rules)
    (λ c. search rules)
    returns
    (λ c. search rules)
    (λ c. search rules)
    (λ c. (omega (arith, length-plain _ c.if-f-eq5.false), search stored-plain)))
