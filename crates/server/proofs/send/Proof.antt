-- `server::send` meets its contract: the room for all messages decides.
use Rattle.server.proofs.SendLaws.{send_short, send_done}
use borrow.Author.Rules.{rules}
use Rattle.server.proofs.send.Statement.{statement}
use Rattle.server.proofs.send.Tie as tie

returns-2 : tie.Need-returns
returns-2 c = send_done _ _ _ c.sizes-size.ensures _ _
    c.if-out-size.false c.counts.ensures c.put_three.ensures

pub send_spec : {M : Type 1} → statement M
send_spec =
    tie.close
    (tie.spec
    (λ c κs. search rules)
    (λ c. send_short _ _ _ c.sizes-size.ensures c.if-out-size.true)
    (λ c κs. search rules)
    (λ c κs. search rules)
    (λ c. search rules)
    returns-2)
