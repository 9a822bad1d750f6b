-- `text_knowledge::put_response` meets its contract: the parties, then what the server's slip said.
use Rattle.text_sheet.proofs.SheetLaws.{then}
use Rattle.text_knowledge.specs.Mail.{message_text}
use borrow.Author.Rules.{rules}
use Rattle.text_knowledge.proofs.put_response.Statement.{statement}
use Rattle.text_knowledge.proofs.put_response.Tie as tie

returns : tie.Need-returns
unfolding message_text
returns c =
    then _ _ _ c.put_to_client-p.ensures c.put_owner.ensures

pub put_response_spec : {M : Type 1} → statement M
put_response_spec =
    tie.close (tie.spec (λ c κs. search rules) (λ c κs. search rules) (λ c. search rules) returns)
