-- `server::put_three` meets its contract: each message stands behind the last.
use native.Mathlib.Omega.{arith}
use Rattle.server.proofs.SendLaws.{three_size, three_put}
use borrow.Author.Rules.{rules}
use Rattle.server.proofs.put_three.Statement.{statement}
use Rattle.server.proofs.put_three.Tie as tie

put-mail-requires : tie.Need-put_mail-a-requires
put-mail-requires c κs = omega (arith, three_size c.args.first c.args.second c.args.third)

put-mail-requires-2 : tie.Need-put_mail-b-requires
put-mail-requires-2 c κs = omega (
  arith,
  three_size c.args.first
      c.args.second c.args.third,
)

put-mail-requires-3 : tie.Need-put_mail-requires
put-mail-requires-3 c κs = omega (
  arith,
  three_size
      c.args.first
      c.args.second
      c.args.third,
)

returns : tie.Need-returns
returns c = three_put _ _ _ _ _ _ _ _ _
    c.put_mail-a.ensures
    c.put_mail-b.ensures c.put_mail.ensures.1

pub put_three_spec : {M : Type 1} → statement M
put_three_spec =
    tie.close
    (tie.spec
    put-mail-requires
    put-mail-requires-2
    put-mail-requires-3
    (λ c. search rules)
    returns)
