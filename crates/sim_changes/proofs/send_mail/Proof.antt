-- `sim_changes::send_mail` meets its contract: each arm is given which mail it is.
use Rattle.sim_changes.proofs.Posting.{mail_asked, mail_sent, mail_none}
use borrow.Author.Rules.{rules}
use Rattle.sim_changes.proofs.send_mail.Statement.{statement}
use Rattle.sim_changes.proofs.send_mail.Tie as tie

send-message-requires : tie.Need-send_message-requires
send-message-requires c κs = mail_asked _ _ c.requires _ c.in-Some.is

returns : tie.Need-returns-in-None
returns c = mail_none _ _ c.requires c.in-None.is

returns-2 : tie.Need-returns-in-Some
returns-2 c =
    mail_sent _ _ c.requires _ c.in-Some.is _ c.send_message.ensures

pub send_mail_spec : {M : Type 1} → statement M
send_mail_spec =
    tie.close
    (tie.spec
    (λ c. search rules)
    (λ c. search rules)
    send-message-requires
    returns
    (λ c. search rules)
    returns-2)
