-- `server::mail_size` meets its contract: each arm is given which mail it is.
use Rattle.server.proofs.SendLaws.{no_size, one_size}
use borrow.Author.Rules.{rules}
use Rattle.server.proofs.mail_size.Statement.{statement}
use Rattle.server.proofs.mail_size.Tie as tie

pub mail_size_spec : {M : Type 1} → statement M
mail_size_spec =
    tie.close
    (tie.spec
    (λ c. search rules)
    (λ c. search rules)
    (λ c κs. search rules)
    (λ c. search no_size)
    (λ c. search one_size))
