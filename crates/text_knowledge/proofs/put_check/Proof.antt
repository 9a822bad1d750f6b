-- `text_knowledge::put_check` meets its contract: the parties, then the ticket.
use Rattle.text_sheet.proofs.SheetLaws.{then}
use Rattle.text_knowledge.specs.Mail.{message_text}
use borrow.Author.Rules.{rules}
use Rattle.text_knowledge.proofs.put_check.Statement.{statement}
use Rattle.text_knowledge.proofs.put_check.Tie as tie

returns : tie.Need-returns
unfolding message_text
returns c =
    then _ _ _ c.put_to_client-p.ensures c.put_with.ensures

pub put_check_spec : {M : Type 1} → statement M
put_check_spec =
    tie.close
    (tie.spec
    (λ c κs. search rules)
    (λ c κs. search rules)
    (λ c. search rules)
    returns)
