-- `text_knowledge::put_receiver` meets its contract: a client and a server have each their word.
use borrow.Author.Rules.{rules}
use Rattle.text_knowledge.proofs.put_receiver.Statement.{statement}
use Rattle.text_knowledge.proofs.put_receiver.Tie as tie

pub put_receiver_spec : {M : Type 1} → statement M
put_receiver_spec =
    tie.close
    (tie.spec
    (λ c. search rules)
    (λ c. search rules)
    (λ c κs. search rules)
    (λ c. search rules)
    (λ c. search rules)
    (λ c κs. search rules)
    (λ c. search rules)
    (λ c. rw c.in-Client.is c.put_with.ensures)
    (λ c. search rules)
    (λ c. rw c.in-Server.is c.put_with-in-Server.ensures))
