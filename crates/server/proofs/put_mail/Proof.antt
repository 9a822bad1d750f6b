-- `server::put_mail` meets its contract: each arm is given which mail it is.
use Rattle.server.proofs.SendLaws.{one-room, no_put, one-put}
use borrow.Author.Rules.{rules}
use Rattle.server.proofs.put_mail.Statement.{statement}
use Rattle.server.proofs.put_mail.Tie as tie

returns-2 : tie.Need-returns-in-Some
returns-2 c = one-put _ _ _ _ _ _ c.in-Some.is c.put.ensures

pub put_mail_spec : {M : Type 1} → statement M
put_mail_spec =
    tie.close
    (tie.spec
    (λ c. search rules)
    (λ c. search rules)
    (λ c κs. search one-room)
    (λ c. no_put _ _ _ c.in-None.is)
    (λ c. search rules)
    returns-2)
