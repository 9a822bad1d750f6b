-- `client::take_check` meets its contract: whom the message is for decides.
use Rattle.client.proofs.StepLaws.{answers-refused, check_elsewhere, check-taken}
use borrow.Author.Rules.{rules}
use Rattle.client.proofs.take_check.Statement.{statement}
use Rattle.client.proofs.take_check.Tie as tie

returns-2 : tie.Need-returns
returns-2 c =
    let a = c.args in
    rw (check-taken a.h _ a.k a.j _ c.for_client.ensures c.if-not-for_client.false a.t) c.check_row.ensures

pub take_check_spec : {M : Type 1} → statement M
take_check_spec =
    tie.close
    (tie.spec
    (λ c κs. search rules)
    (λ c κs. search rules)
    (λ c. search (answers-refused, check_elsewhere))
    (λ c κs. search rules)
    (λ c. search rules)
    returns-2)
