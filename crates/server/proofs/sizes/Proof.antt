-- `server::sizes` meets its contract: three small numbers are added.
use native.Mathlib.Omega.{arith}
use Rattle.server.proofs.SendLaws.{mail_small, three_size}
use borrow.Author.Rules.{rules}
use Rattle.server.proofs.sizes.Statement.{statement}
use Rattle.server.proofs.sizes.Tie as tie

add-result : tie.Need-overflow_add-result
add-result c = omega (arith, mail_small c.args.first, mail_small c.args.second)

add-result-2 : tie.Need-overflow_add-result-2
add-result-2 c = omega (
  arith,
  mail_small c.args.first,
  mail_small c.args.second,
  mail_small c.args.third,
)

returns : tie.Need-returns
returns c = omega (
  arith,
  three_size c.args.first c.args.second c.args.third,
)

pub sizes_spec : {M : Type 1} → statement M
sizes_spec =
    tie.close
    (tie.spec
    (λ c κs. search rules)
    (λ c κs. search rules)
    add-result
    (λ c κs. search rules)
    add-result-2
    returns)
