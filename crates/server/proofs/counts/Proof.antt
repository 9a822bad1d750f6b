-- `server::counts` meets its contract: three small numbers are added.
use native.Mathlib.Omega.{arith}
use Rattle.server.proofs.SendLaws.{mail_few, three_count}
use borrow.Author.Rules.{rules}
use Rattle.server.proofs.counts.Statement.{statement}
use Rattle.server.proofs.counts.Tie as tie

add-result : tie.Need-overflow_add-result
add-result c = omega (arith, mail_few c.args.first, mail_few c.args.second)

add-result-2 : tie.Need-overflow_add-result-2
add-result-2 c = omega (
  arith,
  mail_few c.args.first,
  mail_few c.args.second,
  mail_few c.args.third,
)

returns : tie.Need-returns
returns c = omega (
  arith,
  three_count c.args.first c.args.second c.args.third,
)

pub counts_spec : {M : Type 1} → statement M
counts_spec =
    tie.close
    (tie.spec
    (λ c κs. search rules)
    (λ c κs. search rules)
    add-result
    (λ c κs. search rules)
    add-result-2
    returns)
