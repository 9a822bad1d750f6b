-- `client::receive` meets its contract, kind by kind: only a RESPONSE or a CHECK can be taken.
use mathlib.Core.Path.{refl}
use Rattle.client.proofs.StepLaws.{answers-refused}
use borrow.Author.Rules.{rules}
use Rattle.client.proofs.receive.Statement.{statement}
use Rattle.client.proofs.receive.Tie as tie

take-response-requires : tie.Need-take_response-requires
take-response-requires c κs =
    let m = c.before.before.before in
    let s = m.before.before in
    (c.requires.0, rw c.in-Response.is at c.requires.1)

returns-5 : tie.Need-returns-in-Response
returns-5 c =
    rw c.in-Response.is c.take_response.ensures

returns-6 : tie.Need-returns-in-Check
returns-6 c =
    rw c.in-Check.is c.take_check.ensures

pub receive_spec : {M : Type 1} → statement M
receive_spec =
    tie.close
    (tie.spec
    (λ c. search rules)
    (λ c κs. search rules)
    (λ c. search rules)
    (λ c κs. search rules)
    (λ c. search rules)
    (λ c κs. search rules)
    (λ c. search rules)
    (λ c κs. search rules)
    (λ c. search rules)
    take-response-requires
    (λ c. search rules)
    (λ c κs. search rules)
    (λ c. rw c.in-Request.is (answers-refused _ _ _ _ _ _ refl c.refuse.ensures))
    (λ c. rw c.in-Yield.is (answers-refused _ _ _ _ _ _ refl c.refuse-in-Yield.ensures))
    (λ c. rw c.in-Release.is (answers-refused _ _ _ _ _ _ refl c.refuse-in-Release.ensures))
    (λ c. rw c.in-Inquiry.is (answers-refused _ _ _ _ _ _ refl c.refuse-in-Inquiry.ensures))
    (λ c. search rules)
    (λ c. search rules)
    returns-5
    (λ c. search rules)
    (λ c. search rules)
    returns-6)
