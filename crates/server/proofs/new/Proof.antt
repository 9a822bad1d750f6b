-- `server::new` meets its contract: n decides, then the server's number.
use Rattle.server.proofs.CallLaws.{new_few, new_other, new_made}
use borrow.Author.Rules.{rules}
use Rattle.server.proofs.new.Statement.{statement}
use Rattle.server.proofs.new.Tie as tie

pub new_spec : {M : Type 1} → statement M
new_spec =
    tie.close
    (tie.spec
    (λ c κs. search rules)
    (λ c κs. search rules)
    (λ c. search new_few)
    (λ c. search rules)
    (λ c κs. search rules)
    (λ c κs. search rules)
    (λ c. search new_other)
    (λ c κs. search rules)
    (λ c. search new_made))
