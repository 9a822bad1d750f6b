-- `text_knowledge::put_to_server` meets its contract: the kind, the client, the server and the ticket, one text after another.
use Rattle.text_sheet.proofs.SheetLaws.{then}
use borrow.Author.Rules.{rules}
use Rattle.text_knowledge.proofs.put_to_server.Statement.{statement}
use Rattle.text_knowledge.proofs.put_to_server.Tie as tie

returns : tie.Need-returns
returns c =
    then _ _ _ c.put-p.ensures (then _ _ _ c.put_with-q.ensures (then _ _ _ c.put_with-e.ensures c.put_with.ensures))

pub put_to_server_spec : {M : Type 1} → statement M
put_to_server_spec =
    tie.close
    (tie.spec
    (λ c κs. search rules)
    (λ c. search rules)
    (λ c κs. search rules)
    (λ c. search rules)
    (λ c κs. search rules)
    (λ c κs. search rules)
    (λ c. search rules)
    returns)
